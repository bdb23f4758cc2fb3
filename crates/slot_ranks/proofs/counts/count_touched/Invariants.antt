-- What is in no block of the slots that are left is counted, and so is the last block.
use Rattle.std.proofs.Common.{◌≡◌, ℕ, ◌<◌, ◌/◌, drop, length, get_or}
use Rattle.std.specs.List.{All}
use Rattle.slot_ranks.specs.Ranks.{rank_within}
use Rattle.slot_ranks.proofs.counts.count_touched.Given as goal

abbrev pub invariant-loop-slot : goal.invariant-loop-slot
invariant-loop-slot l = record {
  others : (k : ℕ) → k < length l.live → All (λ other. k / 64 ≡ other / 64 → ⊥) (drop l.slot-index l.slots)
      → get_or l.inner k 0 ≡ rank_within l.live k;
  last : (k : ℕ) → k < length l.live → k / 64 ≡ l.last → get_or l.inner k 0 ≡ rank_within l.live k;
}
