-- The entries so far end before the bound, of one step each.
use Rattle.std.proofs.Common.{◌≡◌, ◌+◌}
use Rattle.span_order.specs.Hits.{AreBefore}
use Rattle.span_order.proofs.hits.found_of.Given as goal

abbrev pub invariant-loop-at : goal.invariant-loop-at
invariant-loop-at g l = record {
  before : AreBefore l.asked l.slots l.from l.at;
  ticks : l.steps + l.from ≡ l.initial.steps + l.at;
}
