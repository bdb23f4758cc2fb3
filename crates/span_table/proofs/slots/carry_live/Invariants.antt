-- The numbers of the slots so far are carried, and the others are as they were.
use Rattle.slot_ranks.specs.Slots.{line, rank}
use Rattle.span_table.specs.Numbers.{opened, shut}
use Rattle.span_table.proofs.Places.{IsCarrying}
use Rattle.span_table.proofs.slots.carry_live.Given as goal

abbrev pub invariant-loop-slot : goal.invariant-loop-slot
invariant-loop-slot l =
    IsCarrying (λ number. opened l.new_gap l.new_room (shut l.old_gap l.old_room number)) (line l.ranks.live) (rank l.ranks.live l.slot) l.initial.numbers l.numbers
