-- The blocks so far are numbered.
use Rattle.std.proofs.Common.{◌≡◌, length, map, take, drop}
use Rattle.slot_ranks.specs.Slots.{rank}
use Rattle.span_order.proofs.order.renumber_blocks.Given as goal

abbrev pub invariant-loop-at : goal.invariant-loop-at
invariant-loop-at l = record {
  front : take l.at l.blocks ≡ map (map (rank l.ranks.live)) (take l.at l.initial.blocks);
  rest : drop l.at l.blocks ≡ drop l.at l.initial.blocks;
  long : length l.blocks ≡ length l.initial.blocks;
}
