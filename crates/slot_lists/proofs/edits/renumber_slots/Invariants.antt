-- The slots so far have their numbers.
use Rattle.std.proofs.Common.{◌≡◌, ◌++◌, map, take, drop}
use Rattle.slot_ranks.specs.Slots.{rank}
use Rattle.slot_lists.proofs.edits.renumber_slots.Given as goal

abbrev pub invariant-loop-slot : goal.invariant-loop-slot
invariant-loop-slot l =
    l.slots ≡ map (rank l.ranks.live) (take l.slot-index l.initial.slots) ++ drop l.slot-index l.initial.slots
