-- What is right of the tops of blocks depends on the ends of their slots alone.
use Rattle.std.proofs.Common.{◌≡◌, ℕ, ◌<◌, ◌≤◌, ◌+◌, ◌/◌, ◌⊎◌, inl, inr, List, length, map, get_or, sym, ap, ◌∙◌, arith}
use Rattle.std.specs.List.{concat}
use Rattle.std.proofs.lemmas.List.{get_or-map, length-map, same_lists}
use Rattle.span_order.specs.Blocks.{block_at, start_of}
use Rattle.span_order.specs.Tops.{IsTop, greatest}
use Rattle.span_order.specs.Topped.{IsTopped, IsToppedBut}
use Rattle.span_order.specs.declared.tops.Top.{Top}
use Rattle.span_order.proofs.Entries.{entry_at, number_within}
use Rattle.span_order.proofs.Numbers.{start_more, starts_rise}

-- the ends of these slots are the same by both lists
abbrev pub EndAlike : (old ends slots : List ℕ) → Type 0
EndAlike old ends slots = (at : ℕ) → at < length slots → get_or ends (get_or slots at 0) 0 ≡ get_or old (get_or slots at 0) 0

pub top_alike : (old ends slots : List ℕ) (top : Top) → EndAlike old ends slots → IsTop old slots top → IsTop ends slots top
top_alike old ends slots top same is = record {
  there = is.there;
  last = λ at h.
      let there = is.there (at / 4) (omega arith) in
      let last = is.last at h in
      let this = same at h in
      let that = same there.0 there.1.1.0 in
      let one = ap (λ slot. get_or ends slot 0) there.1.1.1 in
      let other = ap (λ slot. get_or old slot 0) there.1.1.1 in
      omega arith;
  crest = is.crest ∙ ap greatest (same_lists (map (λ slot. get_or old slot 0) slots) (map (λ slot. get_or ends slot 0) slots)
      (length-map slots (λ slot. get_or old slot 0) ∙ sym (length-map slots (λ slot. get_or ends slot 0)))
      (λ i d h. let within : i < length slots = omega (arith, length-map slots (λ slot. get_or old slot 0)) in
      get_or-map (λ slot. get_or old slot 0) slots i 0 d within ∙ sym (same i within) ∙ sym (get_or-map (λ slot. get_or ends slot 0) slots i 0 d within)));
}

-- so tops stay right where only the ends of other slots change
pub topped_alike : (old ends : List ℕ) (bs : List (List ℕ)) (ts : List Top) → EndAlike old ends (concat bs) → IsTopped old bs ts → IsTopped ends bs ts
topped_alike old ends bs ts same topped = record {
  long = topped.long;
  each = λ b within. top_alike old ends (block_at bs b) _ (λ at h.
      let fits = number_within bs b within in
      rw (← entry_at bs b at within h) (same (start_of bs b + at) (omega arith))) (topped.each b within);
}

-- and those outside some blocks stay right where the ends of the slots in these change
pub topped_but : (old ends : List ℕ) (bs : List (List ℕ)) (ts : List Top) (from to : ℕ)
    → ((at : ℕ) → at < length (concat bs) → (at < start_of bs from) ⊎ (start_of bs to ≤ at)
    → get_or ends (get_or (concat bs) at 0) 0 ≡ get_or old (get_or (concat bs) at 0) 0)
    → IsTopped old bs ts → IsToppedBut ends bs ts from to
topped_but old ends bs ts from to same topped = record {
  long = topped.long;
  before = λ b low within. top_alike old ends (block_at bs b) _ (λ at h.
      let fits = number_within bs b within in
      let next = start_more bs b within in
      let rise = starts_rise bs (b + 1) from (omega arith) in
      rw (← entry_at bs b at within h) (same (start_of bs b + at) (omega arith) (inl (omega arith)))) (topped.each b within);
  behind = λ b low within. top_alike old ends (block_at bs b) _ (λ at h.
      let fits = number_within bs b within in
      let rise = starts_rise bs to b low in
      rw (← entry_at bs b at within h) (same (start_of bs b + at) (omega arith) (inr (omega arith)))) (topped.each b within);
}
