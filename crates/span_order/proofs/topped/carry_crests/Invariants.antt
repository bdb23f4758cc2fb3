-- The crests so far are carried.
use Rattle.std.proofs.Common.{◌≡◌, ◌≤◌, ◌<◌, ℕ, length}
use Rattle.span_order.specs.Topped.{carried, top_at}
use Rattle.span_order.proofs.topped.carry_crests.Given as goal

abbrev pub invariant-loop-at : goal.invariant-loop-at
invariant-loop-at l = record {
  long : length l.tops ≡ length l.initial.tops;
  done : (k : ℕ) → k < l.at → top_at l.tops k ≡ record (top_at l.initial.tops k) { crest = carried l.low l.high l.up l.down (top_at l.initial.tops k).crest };
  left : (k : ℕ) → l.at ≤ k → top_at l.tops k ≡ top_at l.initial.tops k;
}
