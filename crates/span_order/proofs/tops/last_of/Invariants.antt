-- The slot ends last of the entries so far.
use Rattle.std.proofs.Common.{◌≡◌, ◌≤◌, ◌<◌, ℕ, get_or}
use Rattle.span_order.proofs.tops.last_of.Given as goal

abbrev pub invariant-loop-at : goal.invariant-loop-at
invariant-loop-at l = record {
  there : (k : ℕ) × ((l.from ≤ k) × ((k < l.at) × (get_or l.slots k 0 ≡ l.last)));
  latest : (k : ℕ) → l.from ≤ k → k < l.at → get_or l.ends (get_or l.slots k 0) 0 ≤ get_or l.ends l.last 0;
}
