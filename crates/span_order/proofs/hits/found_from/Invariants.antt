-- What was passed by ends before the bound, and steps were taken in the first four alone.
use Rattle.std.proofs.Common.{length, ◌-◌, ◌≤◌, ◌+◌, min}
use Rattle.span_order.specs.Hits.{AreBefore, rest}
use Rattle.span_order.proofs.hits.found_from.Given as goal

abbrev pub invariant-loop-at : goal.invariant-loop-at
invariant-loop-at g l = record {
  low : l.from ≤ l.at;
  before : AreBefore l.asked l.slots l.from (min l.at (length l.slots));
  ticks : l.steps + rest l.at ≤ l.initial.steps + rest l.from;
  looked : l.steps + l.from ≤ l.initial.steps + min l.at (length l.slots);
  more : l.initial.steps ≤ l.steps;
}

abbrev pub decreases-loop-at : goal.decreases-loop-at
decreases-loop-at g l = length l.slots - l.at
