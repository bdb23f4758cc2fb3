-- The greatest ends of blocks where ends go up and down together.
use Rattle.std.proofs.Common.{◌≡◌, ℕ, ◌<◌, ◌+◌, ◌/◌, inl, inr, List, length, map, get_or, sym, ap, ◌∙◌, arith}
use Rattle.std.specs.List.{concat}
use Rattle.std.proofs.lemmas.Bool.Decides.{nat_tests}
use Rattle.std.proofs.lemmas.List.{get_or-map, length-map}
use Rattle.span_order.specs.Blocks.{block_at, start_of}
use Rattle.span_order.specs.Tops.{IsTop, greatest}
use Rattle.span_order.specs.Topped.{AreCarried, carried}
use Rattle.span_order.specs.declared.tops.Top.{Top}
use Rattle.span_order.proofs.Crests.{greatest_above, greatest_map, greatest_there}
use Rattle.span_order.proofs.Entries.{entry_at, number_within}

carried-zero : (low high up down : ℕ) → carried low high up down 0 ≡ 0
carried-zero low high up down = grind (arith, nat_tests)

-- in a block, as in the list
pub block_carried : (low high up down : ℕ) (old ends : List ℕ) (bs : List (List ℕ)) (b : ℕ) → b < length bs
    → AreCarried low high up down old ends (concat bs) → AreCarried low high up down old ends (block_at bs b)
block_carried low high up down old ends bs b within all =
    let fits = number_within bs b within in
    record {
      each = λ at h. rw (← entry_at bs b at within h) (all.each (start_of bs b + at) (omega arith));
      rise = λ at other h k. rw (← entry_at bs b at within h, ← entry_at bs b other within k) (all.rise (start_of bs b + at) (start_of bs b + other) (omega arith) (omega arith));
    }

-- the greatest end goes with the ends
crest_carried : (low high up down : ℕ) (old ends slots : List ℕ) (crest : ℕ) → crest ≡ greatest (map (λ slot. get_or old slot 0) slots)
    → AreCarried low high up down old ends slots → carried low high up down crest ≡ greatest (map (λ slot. get_or ends slot 0) slots)
crest_carried low high up down old ends slots crest is all =
    let numbers = map (λ slot. get_or old slot 0) slots in
    let long = length-map slots (λ slot. get_or old slot 0) in
    elim (greatest_there numbers) [
      | inl none ↦ (let zero_is : crest ≡ 0 = is ∙ none in
          let none_is : carried low high up down crest ≡ 0 = ap (carried low high up down) zero_is ∙ carried-zero low high up down in
          greatest_map (λ slot. get_or ends slot 0) slots (carried low high up down crest)
          (λ at h.
          let above = greatest_above numbers at (omega arith) in
          let same = get_or-map (λ slot. get_or old slot 0) slots at 0 0 h in
          let this : get_or old (get_or slots at 0) 0 ≡ crest = omega arith in
          let new = all.each at h ∙ ap (carried low high up down) this in omega arith)
          (inl none_is))
      | inr there ↦ (let i = there.0 in
          let inside : i < length slots = omega (arith, there.1.0) in
          let same = get_or-map (λ slot. get_or old slot 0) slots i 0 0 inside in
          let this : get_or old (get_or slots i 0) 0 ≡ crest = sym same ∙ there.1.1 ∙ sym is in
          let new = all.each i inside ∙ ap (carried low high up down) this in
          greatest_map (λ slot. get_or ends slot 0) slots (carried low high up down crest)
          (λ at h.
          let above = greatest_above numbers at (omega arith) in
          let here = get_or-map (λ slot. get_or old slot 0) slots at 0 0 h in
          let rise = all.rise at i h inside (omega arith) in omega arith)
          (inr (i, (inside, new))))
    ]

-- so do the tops
pub top_carried : (low high up down : ℕ) (old ends slots : List ℕ) (top : Top) → IsTop old slots top → AreCarried low high up down old ends slots
    → IsTop ends slots (record top { crest = carried low high up down top.crest })
top_carried low high up down old ends slots top is all = record {
  there = is.there;
  last = λ at h.
      let there = is.there (at / 4) (omega arith) in
      rw (← there.1.1.1) (all.rise at there.0 h there.1.1.0 (rw there.1.1.1 (is.last at h)));
  crest = crest_carried low high up down old ends slots top.crest is.crest all;
}
