-- What edits and items make of the selection and of the composing region, as laws.
use Rattle.std.specs.Prelude.{ℕ, ℤ, ◌≡◌, ◌≤◌, ◌<◌, ◌+◌, false, Some, None}
use Rattle.edit_model.specs.declared.items.Item.{Item}
use Rattle.edit_model.specs.declared.items.Item.TheVariants as item
use Rattle.edit_model.specs.declared.steps.Step.TheVariants as step
use Rattle.edit_model.specs.State.{State, place}
use Rattle.edit_model.specs.EndTable.{scaled}
use Rattle.edit_model.specs.WellFormed.{IsWellFormed}
use Rattle.edit_model.specs.Selection.{selection, region, has_region}
use Rattle.edit_model.specs.Changed.{stepped}
use Rattle.edit_model.specs.Fitting.{IsFittingItem, HasTurn}
use Rattle.edit_model.specs.Machine.{Setup, Scene, resolved}
use Rattle.edit_model.specs.Laws.{BringsOrdered}
use Rattle.edit_model.specs.Outcome.{outcome}

-- ---- the selection

-- an end of the selection inside a replaced range stays inside the units that come, and in order
abbrev pub ScalesInside : Type 0
ScalesInside = (x y s e n : ℕ) → s < x → x ≤ y → y < e → (s ≤ scaled x s e n) × (scaled x s e n ≤ scaled y s e n) × (scaled y s e n ≤ s + n)

-- a select that is done puts the selection at its places, whatever their order
abbrev pub SelectsPlaces : Type 0
SelectsPlaces = (state : State) (start end : ℤ) → IsWellFormed state
    → selection (stepped state (step.Select start end)).spans ≡ Some (place start, place end)

-- behind a deselect there is no selection
abbrev pub LeavesNoSelection : Type 0
LeavesNoSelection = (state : State) → selection (stepped state step.Deselect).spans ≡ None

-- ---- the composing region

-- a mark puts the region at its places, where there was none
abbrev pub MarksPlaces : Type 0
MarksPlaces = (state : State) (start end : ℕ) → has_region state.spans ≡ false
    → region (stepped state (step.Mark start end)).spans ≡ Some (start, end)

-- behind the run of a drop no region is attached, whatever the watchers answer: a region may be marked
abbrev pub DropsRegions : Type 0
DropsRegions = (r : Setup) (s : Scene) → has_region (outcome r item.Drop s).state.spans ≡ false

-- ---- items

-- the step that an item is resolved to at its turn keeps a state well formed, where it brings what it may and may have its turn
abbrev pub ResolvesInOrder : Type 0
ResolvesInOrder = (state : State) (it : Item) → IsFittingItem it → HasTurn state it → BringsOrdered state (resolved state it)
