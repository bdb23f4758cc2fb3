-- What was passed by ends before the bound.
use Rattle.std.proofs.Common.{length, ◌-◌, ◌≤◌, ◌+◌}
use Rattle.std.specs.List.{concat}
use Rattle.span_order.specs.Blocks.{IsPlace, number_of}
use Rattle.span_order.specs.Hits.{AreBefore, rest}
use Rattle.span_order.proofs.pull.found_from_place.Given as goal

abbrev pub invariant-loop-at : goal.invariant-loop-at
invariant-loop-at g l = record {
  place : IsPlace l.order.blocks l.at;
  before : AreBefore l.asked (concat l.order.blocks) (number_of l.order.blocks l.fn.from) (number_of l.order.blocks l.at);
  order : number_of l.order.blocks l.fn.from ≤ number_of l.order.blocks l.at;
  ticks : l.steps + rest l.at.index ≤ l.initial.steps + rest l.fn.from.index;
  looked : l.steps + number_of l.order.blocks l.fn.from ≤ l.initial.steps + number_of l.order.blocks l.at;
  more : l.initial.steps ≤ l.steps;
}

abbrev pub decreases-loop-at : goal.decreases-loop-at
decreases-loop-at g l = length l.order.blocks - l.at.block
