-- The greatest of some numbers.
use Rattle.std.proofs.Common.{◌≡◌, ℕ, suc, zero, ◌<◌, ◌≤◌, ◌⊎◌, inl, inr, List, [], ◌∷◌, length, map, get_or, ◌∙◌, refl, arith}
use Rattle.std.proofs.lemmas.Bool.{cases_lt}
use Rattle.std.proofs.lemmas.List.{get_or-map, length-map}
use Rattle.span_order.specs.Tops.{greatest}

-- none is greater
pub greatest_above : (xs : List ℕ) (at : ℕ) → at < length xs → get_or xs at 0 ≤ greatest xs
greatest_above [] at within = absurd (omega arith)
greatest_above (x ∷ xs) zero within = grind arith
greatest_above (x ∷ xs) (suc at) within = let more : get_or xs at 0 ≤ greatest xs = greatest_above xs at (omega arith) in grind arith

-- what none is above, the greatest isn't
pub greatest_below : (xs : List ℕ) (top : ℕ) → ((at : ℕ) → at < length xs → get_or xs at 0 ≤ top) → greatest xs ≤ top
greatest_below [] top above = omega arith
greatest_below (x ∷ xs) top above =
    let here : x ≤ top = above 0 (omega arith) in
    let more : greatest xs ≤ top = greatest_below xs top (λ at h. above (suc at) (omega arith)) in
    grind arith

-- the greatest is what none is above, and what one is
pub greatest_is : (xs : List ℕ) (top : ℕ) → ((at : ℕ) → at < length xs → get_or xs at 0 ≤ top)
    → (top ≡ 0) ⊎ ((at : ℕ) × ((at < length xs) × (get_or xs at 0 ≡ top))) → top ≡ greatest xs
greatest_is xs top above (inl none) = let below = greatest_below xs top above in omega arith
greatest_is xs top above (inr there) =
    let below = greatest_below xs top above in
    let least = greatest_above xs there.0 there.1.0 in
    omega (arith, there.1.1)

-- the same of what a function gives
pub greatest_map : (f : ℕ → ℕ) (xs : List ℕ) (top : ℕ) → ((at : ℕ) → at < length xs → f (get_or xs at 0) ≤ top)
    → (top ≡ 0) ⊎ ((at : ℕ) × ((at < length xs) × (f (get_or xs at 0) ≡ top))) → top ≡ greatest (map f xs)
greatest_map f xs top above (inl none) =
    greatest_is (map f xs) top (λ at h. rw (get_or-map f xs at 0 0 (omega (arith, length-map xs f))) (above at (omega (arith, length-map xs f)))) (inl none)
greatest_map f xs top above (inr there) =
    greatest_is (map f xs) top (λ at h. rw (get_or-map f xs at 0 0 (omega (arith, length-map xs f))) (above at (omega (arith, length-map xs f))))
    (inr (there.0, (omega (arith, length-map xs f, there.1.0), get_or-map f xs there.0 0 0 there.1.0 ∙ there.1.1)))

-- one is the greatest, or that is 0
pub greatest_there : (xs : List ℕ) → (greatest xs ≡ 0) ⊎ ((at : ℕ) × ((at < length xs) × (get_or xs at 0 ≡ greatest xs)))
greatest_there [] = inl refl
greatest_there (x ∷ xs) = elim (cases_lt x (greatest xs)) [
  | inl less ↦ elim (greatest_there xs) [
    | inl none ↦ absurd (omega arith)
    | inr there ↦ inr (suc there.0, (omega (arith, there.1.0), there.1.1 ∙ grind arith))
  ]
  | inr most ↦ inr (0, (omega arith, grind arith))
]
