-- The slots so far are written. What is left is nothing, or enough for a piece that isn't small.
use Rattle.std.proofs.Common.{◌≡◌, ◌<◌, ◌≤◌, ◌+◌, ◌-◌, ◌*◌, length, take, vec_capacity}
use Rattle.span_order.specs.Window.{IsWritten, all_of, least_piece}
use Rattle.span_order.proofs.window.write_pieces.Given as goal

abbrev pub invariant-loop-at : goal.invariant-loop-at
invariant-loop-at l = record {
  all : l.all ≡ length (all_of l.run);
  within : l.at ≤ l.all;
  written : IsWritten l.initial.blocks.items l.blocks.items l.first l.end (take l.at (all_of l.run)) (least_piece l.all) l.written;
  few : 32 * (l.written.next - l.first) ≤ l.at + 31;
  left : 0 < l.at → l.at < l.all → 32 + l.at ≤ l.all;
  capacity : vec_capacity l.initial.blocks ≤ vec_capacity l.blocks;
}

abbrev pub decreases-loop-at : goal.decreases-loop-at
decreases-loop-at l = l.all - l.at
