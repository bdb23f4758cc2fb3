-- The items so far were run, and the others are left.
use Rattle.std.proofs.Common.{◌≡◌, ◌≤◌, [], length, map, drop}
use Rattle.edit_base.specs.declared.bounds.TheConstants.Limits.{NESTED_EDITS}
use Rattle.trace_model.specs.Output.{setup}
use Rattle.edit_model.specs.WellFormed.{IsSeated}
use Rattle.settings_reader.specs.Seen.{as_settings}
use Rattle.watcher_rounds.specs.Rounds.{AreOnShelf, stands}
use Rattle.edit_model.specs.Machine.{scene_at}
use Rattle.editor_core.proofs.ItemRuns.{Ran}
use Rattle.editor_core.proofs.running.run_items.Given as goal

abbrev pub invariant-loop-item : goal.invariant-loop-item
invariant-loop-item g l =
    let first = map (λ b. (goal.Watcher-dyn g (b.vtable, b.value)).mind b.value) l.fn.shelf.items in
    let minds = map (λ b. (goal.Watcher-dyn g (b.vtable, b.value)).mind b.value) l.shelf.items in
    record {
      ran : Ran (setup (as_settings l.settings) l.slots.items) l.items (drop l.item-index l.items) (scene_at l.fn.text.state first)
          (stands l.text.state minds l.log.items l.spent);
      shelf : AreOnShelf l.slots.items minds;
      seats : IsSeated (length l.slots.items) l.text.state.spans;
      few : l.spent ≤ NESTED_EDITS;
      idle : l.items ≡ [] → l.steps ≡ l.fn.steps;
    }
