-- Edits and items that bring no more than a replacement may, and items that may have their turn.
use Rattle.std.specs.Prelude.{◌≡◌, false}
use Rattle.edit_model.specs.declared.items.Item.{Item}
use Rattle.edit_model.specs.declared.items.Item.TheVariants as item
use Rattle.edit_model.specs.declared.steps.Step.{Step}
use Rattle.edit_model.specs.declared.steps.Step.TheVariants as step
use Rattle.edit_model.specs.State.{State}
use Rattle.edit_model.specs.Brought.{IsBrought}
use Rattle.edit_model.specs.Selection.{has_region}

-- what an edit brings, if it brings something, a replacement may bring
abbrev pub IsFittingStep : Step → Type 0
IsFittingStep (step.Replace start end incoming) = IsBrought incoming
IsFittingStep (step.Set id start end flags what) = Unit {0}
IsFittingStep (step.Remove id) = Unit {0}
IsFittingStep (step.Select start end) = Unit {0}
IsFittingStep step.Deselect = Unit {0}
IsFittingStep step.Drop = Unit {0}
IsFittingStep (step.Mark start end) = Unit {0}

-- the same of an item; an edit of its own has a small text and no spans
abbrev pub IsFittingItem : Item → Type 0
IsFittingItem (item.Edit it) = Unit {0}
IsFittingItem (item.Replace start end incoming) = IsBrought incoming
IsFittingItem (item.Write start end incoming) = IsBrought incoming
IsFittingItem (item.Cursor at) = Unit {0}
IsFittingItem (item.Mark start end) = Unit {0}
IsFittingItem item.Drop = Unit {0}
IsFittingItem item.Deselect = Unit {0}

-- an item that may have its turn with this text: a region is marked where none is attached
abbrev pub HasTurn : State → Item → Type 0
HasTurn state (item.Edit it) = Unit {0}
HasTurn state (item.Replace start end incoming) = Unit {0}
HasTurn state (item.Write start end incoming) = Unit {0}
HasTurn state (item.Cursor at) = Unit {0}
HasTurn state (item.Mark start end) = has_region state.spans ≡ false
HasTurn state item.Drop = Unit {0}
HasTurn state item.Deselect = Unit {0}
