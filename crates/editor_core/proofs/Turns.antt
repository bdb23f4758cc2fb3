-- The items of a command may have their turns.
use Rattle.std.proofs.Common.{◌≡◌, ◌∙◌, ℕ, ℤ, ◌||◌, Bool, true, false, cond, Option, Some, None, [], ◌∷◌, ◌++◌, sym, ap, subst}
use Rattle.std.specs.List.{All}
use Rattle.edit_base.specs.declared.rows.Incoming.{Incoming}
use Rattle.trace_model.specs.declared.commands.Command.{Command}
use Rattle.trace_model.specs.declared.commands.Command.TheVariants as commands
use Rattle.edit_model.specs.declared.items.Item.TheVariants as item
use Rattle.edit_model.specs.declared.items.Planned.{Planned}
use Rattle.edit_model.specs.declared.items.Planned.TheVariants as planned
use Rattle.edit_model.specs.State.{State}
use Rattle.edit_model.specs.Machine.{Setup, Scene}
use Rattle.edit_model.specs.Selection.{selection, region, has_region}
use Rattle.edit_model.specs.Verdicts.{goes_beyond, goes_below}
use Rattle.trace_model.specs.Items.{compose_items, commit_items, spared, around_selection, delete_around, counted_back, counted_on, between, points_selection, delete_points, select_item, items_of, items_in}
use Rattle.edit_model.specs.Fitting.{IsFittingItem}
use Rattle.trace_model.specs.Reading.{IsFitting}
use Rattle.trace_model.proofs.PlannedItems.{plans_fitting_items}
use Rattle.edit_model.proofs.Regions.{no_region-drop}
use Rattle.editor_core.specs.Editors.{HaveTurns}

module _ (r : Setup) where
  text_turns : (test : Bool) (at : ℤ) (start end : ℤ) (incoming : Incoming) (s : Scene)
      → HaveTurns r (cond test (item.Drop ∷ []) [] ++ item.Cursor at ∷ item.Write start end incoming ∷ []) s
  text_turns true at start end incoming s = (tt, (tt, (tt, tt)))
  text_turns false at start end incoming s = (tt, (tt, tt))

  around_turns : (state : State) (chosen : Option (ℕ × ℕ)) (before after : ℕ) (s : Scene) → HaveTurns r (items_in (around_selection state chosen before after)) s
  around_turns state None before after s = tt
  around_turns state (Some chosen) before after s = (tt, (tt, tt))

  between_turns : (kept : ℕ × ℕ) (first last : Option ℕ) (s : Scene) → HaveTurns r (items_in (between kept first last)) s
  between_turns kept None last s = tt
  between_turns kept (Some first) None s = tt
  between_turns kept (Some first) (Some last) s = (tt, (tt, tt))

  points_turns : (state : State) (chosen : Option (ℕ × ℕ)) (before after : ℕ) (s : Scene) → HaveTurns r (items_in (points_selection state chosen before after)) s
  points_turns state None before after s = tt
  points_turns state (Some chosen) before after s =
      let kept = spared chosen (region state.spans) in between_turns kept (counted_back state.units before kept.0) (counted_on state.units after kept.1) s

  selection_turns : (test : Bool) (start end : ℤ) (s : Scene) → HaveTurns r (items_in (cond test planned.Ignored (planned.Items (select_item start end ∷ [])))) s
  selection_turns true start end s = tt
  selection_turns false start end s = (tt, tt)

  pub turns : (state : State) (asked : Command) (s : Scene) → HaveTurns r (items_in (items_of state asked)) s
  unfolding items_of compose_items commit_items delete_around delete_points
  turns state (commands.Replace start end incoming) s = (tt, tt)
  turns state (commands.SetSpan id start end flags what) s = (tt, tt)
  turns state (commands.RemoveSpan id) s = (tt, tt)
  turns state (commands.SpansOver start end) s = tt
  turns state (commands.NextEdge start limit) s = tt
  turns state (commands.Select start end) s = (tt, tt)
  turns state commands.Deselect s = (tt, tt)
  turns state (commands.Compose incoming cursor) s = text_turns (has_region state.spans) _ _ _ _ s
  turns state (commands.Commit incoming cursor) s = text_turns (has_region state.spans) _ _ _ _ s
  turns state commands.Finish s = (tt, tt)
  turns state (commands.Region start end) s = (tt, (no_region-drop r s, tt))
  turns state (commands.DeleteAround before after) s = around_turns state (selection state.spans) before after s
  turns state (commands.DeletePoints before after) s = points_turns state (selection state.spans) before after s
  turns state (commands.SetSelection start end) s = selection_turns (goes_beyond state start end || goes_below start end) start end s
  turns state (commands.TextBefore count) s = tt
  turns state (commands.TextAfter count) s = tt
  turns state commands.Selected s = tt
  turns state commands.Begin s = tt
  turns state commands.End s = tt

-- so may those that were planned
pub turns-planned : (r : Setup) (planned : Planned) (state : State) (asked : Command) (s : Scene) → planned ≡ items_of state asked
    → HaveTurns r (items_in planned) s
turns-planned r planned state asked s is = subst (λ planned. HaveTurns r (items_in planned) s) (sym is) (turns r state asked s)

-- and they bring what they may
pub fits-planned : (planned : Planned) (state : State) (asked : Command) → planned ≡ items_of state asked → IsFitting asked
    → All IsFittingItem (items_in planned)
fits-planned planned state asked is fits =
    subst (λ planned. All IsFittingItem (items_in planned)) (sym is) (plans_fitting_items state asked fits)

-- where a command has no items, none are planned
pub none-planned : (planned : Planned) (state : State) (asked : Command) → planned ≡ items_of state asked
    → items_in (items_of state asked) ≡ [] → items_in planned ≡ []
none-planned planned state asked is none = ap items_in is ∙ none
