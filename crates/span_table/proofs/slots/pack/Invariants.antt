-- The places of the slots so far are packed, and the others are as they were.
use Rattle.std.proofs.Common.{◌≤◌, vec_capacity}
use Rattle.slot_ranks.specs.Slots.{line, rank}
use Rattle.span_table.proofs.Places.{IsPacking}
use Rattle.span_table.proofs.slots.pack.Given as goal

abbrev pub invariant-loop-slot : goal.invariant-loop-slot
invariant-loop-slot g l = record {
  packing : IsPacking (line l.ranks.live) (rank l.ranks.live l.slot) l.initial.items.items l.items.items;
  capacity : vec_capacity l.initial.items ≤ vec_capacity l.items;
}
