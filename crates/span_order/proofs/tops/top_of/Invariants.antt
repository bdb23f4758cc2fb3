-- The fours so far have their slots, and the crest is the greatest end of these.
use Rattle.std.proofs.Common.{◌≡◌, ◌≤◌, ◌<◌, ◌⊎◌, length, ℕ, ◌*◌, ◌/◌, get_or}
use Rattle.span_order.specs.Tops.{IsInFour}
use Rattle.span_order.proofs.tops.top_of.Given as goal

abbrev pub invariant-loop-four : goal.invariant-loop-four
invariant-loop-four l = record {
  long : length l.top.fours ≡ 16;
  there : (k : ℕ) → k < l.four → IsInFour l.slots k (get_or l.top.fours k 0);
  last : (at : ℕ) → at < 4 * l.four → at < length l.slots → get_or l.ends (get_or l.slots at 0) 0 ≤ get_or l.ends (get_or l.top.fours (at / 4) 0) 0;
  above : (at : ℕ) → at < 4 * l.four → at < length l.slots → get_or l.ends (get_or l.slots at 0) 0 ≤ l.top.crest;
  is : (l.top.crest ≡ 0) ⊎ ((at : ℕ) × ((at < length l.slots) × (get_or l.ends (get_or l.slots at 0) 0 ≡ l.top.crest)));
}
