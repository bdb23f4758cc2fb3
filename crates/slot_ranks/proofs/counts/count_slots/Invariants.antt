-- The slots so far are counted.
use Rattle.std.proofs.Common.{◌≡◌, ℕ, ◌<◌, ◌≤◌, ◌+◌, ◌-◌, get_or}
use Rattle.slot_ranks.specs.Slots.{rank}
use Rattle.slot_ranks.proofs.counts.count_slots.Given as goal

abbrev pub invariant-loop-slot : goal.invariant-loop-slot
invariant-loop-slot l = record {
  count : rank l.live l.from + l.count ≡ rank l.live l.slot;
  there : (k : ℕ) → l.from ≤ k → k < l.slot → get_or l.inner k 0 ≡ rank l.live k - rank l.live l.from;
  front : (k : ℕ) → k < l.from → get_or l.inner k 0 ≡ get_or l.initial.inner k 0;
  behind : (k : ℕ) → l.slot ≤ k → get_or l.inner k 0 ≡ get_or l.initial.inner k 0;
}
