-- The first slots beside the places that are left stand as the result's do.
use Rattle.std.proofs.Common.{◌<◌, ◌≤◌, ◌-◌, length, slice_index}
use Rattle.span_order.specs.Blocks.{block_at}
use Rattle.span_order.specs.Ranked.{rank_in, rank_of}
use Rattle.span_order.proofs.search.block_from.Given as goal

abbrev pub invariant-loop-low : goal.invariant-loop-low
invariant-loop-low l = record {
  order : l.low ≤ l.high;
  within : l.high ≤ length l.blocks;
  before : 0 < l.low → rank_in l.keys (slice_index (block_at l.blocks (l.low - 1)) 0) < rank_of l.number l.slot;
  from : l.high < length l.blocks → rank_of l.number l.slot ≤ rank_in l.keys (slice_index (block_at l.blocks l.high) 0);
}

abbrev pub decreases-loop-low : goal.decreases-loop-low
decreases-loop-low l = l.high - l.low
