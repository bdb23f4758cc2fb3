-- The spans so far that aren't emptied.
use Rattle.std.proofs.Common.{◌≡◌, ◌≤◌, take, not, length}
use Rattle.std.specs.List.{filter}
use Rattle.edit_model.specs.Replaced.{is_emptied}
use Rattle.span_table.specs.Table.{spans_of}
use Rattle.replace_engine.proofs.arriving.count_kept.Given as goal

abbrev pub invariant-loop-i : goal.invariant-loop-i
invariant-loop-i l = record {
  count : l.count ≡ length (filter (λ span. not (is_emptied l.cut.start l.cut.end l.cut.grown span)) (take l.i (spans_of l.rows)));
  few : l.count ≤ l.i;
}
