-- The slots so far are dead.
use Rattle.std.proofs.Common.{◌≡◌, ℕ, ◌&&◌, not, take}
use Rattle.slot_ranks.specs.Slots.{is_among, is_live}
use Rattle.slot_ranks.proofs.counts.mark_dead.Given as goal

abbrev pub invariant-loop-slot : goal.invariant-loop-slot
invariant-loop-slot l = (k : ℕ) → is_live l.live k ≡ (is_live l.initial.live k && not (is_among (take l.slot-index l.slots) k))
