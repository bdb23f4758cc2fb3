-- None of the spans so far watches for the slot.
use Rattle.std.proofs.Common.{◌≡◌, ◌&&◌, not, false, take}
use Rattle.std.specs.List.{list_any}
use Rattle.edit_model.specs.Attached.{has_id}
use Rattle.edit_model.specs.Verdicts.{watches}
use Rattle.span_table.specs.Table.{spans_of}
use Rattle.replace_engine.proofs.judging.is_slot_taken.Given as goal

abbrev pub invariant-loop-i : goal.invariant-loop-i
invariant-loop-i l = list_any (λ span. not (has_id l.id span) && watches l.slot span.what) (take l.i (spans_of l.rows)) ≡ false
