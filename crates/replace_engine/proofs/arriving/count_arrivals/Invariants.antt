-- The incoming spans so far that arrive.
use Rattle.std.proofs.Common.{◌≡◌, ◌≤◌, take, length}
use Rattle.span_table.specs.Table.{spans_of}
use Rattle.replace_engine.specs.Arrivals.{arrivals, stayed}
use Rattle.replace_engine.proofs.arriving.count_arrivals.Given as goal

abbrev pub invariant-loop-at : goal.invariant-loop-at
invariant-loop-at l = record {
  count : l.count ≡ length (arrivals l.cut (stayed l.cut (spans_of l.rows)) (take l.at l.spans));
  few : l.count ≤ l.at;
}
