-- The first units of two lists, one behind the other.
use Rattle.std.proofs.Common.{◌≡◌, ℕ, zero, suc, ◌-◌, List, [], ◌∷◌, ◌++◌, length, take, min, refl, ap}
use native.Mathlib.Numerals.{unary_clauses}

pub taken : {X : Type 0} (n : ℕ) (xs ys : List X) → take (min n (length xs)) xs ++ take (n - min n (length xs)) ys ≡ take n (xs ++ ys)
taken zero xs ys = simp unary_clauses refl
taken (suc n) [] ys = simp unary_clauses refl
taken (suc n) (x ∷ xs) ys = simp unary_clauses (ap (λ rest. x ∷ rest) (taken n xs ys))
