-- The slots so far are numbered.
use Rattle.std.proofs.Common.{◌≡◌, length, map, take, drop}
use Rattle.slot_ranks.specs.Slots.{rank}
use Rattle.span_order.proofs.block.renumber_slots.Given as goal

abbrev pub invariant-loop-at : goal.invariant-loop-at
invariant-loop-at l = record {
  front : take l.at l.slots ≡ map (rank l.ranks.live) (take l.at l.initial.slots);
  rest : drop l.at l.slots ≡ drop l.at l.initial.slots;
  long : length l.slots ≡ length l.initial.slots;
}
