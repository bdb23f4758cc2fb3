-- The first element that passes a test has a place exactly where some element passes it.
use Rattle.std.proofs.Common.{◌≡◌, ℕ, ◌||◌, Bool, true, false, not, cond, List, [], ◌∷◌, refl, ap, ◌∙◌, ◌+◌, suc, ltb, length, Option, Some, None, arith, is_some}
use Rattle.std.specs.List.{list_any, position_or_len}
use Rattle.std.proofs.lemmas.Bool.Decides.{nat_tests}

module _ {X : Type 0} (test : X → Bool) where
  first_step : (passes : Bool) (place count : ℕ) (rest : Bool) → ltb place count ≡ rest → ltb (cond (not passes) (1 + place) 0) (suc count) ≡ (passes || rest)
  first_step true place count rest is = grind (arith, nat_tests)
  first_step false place count true is = grind (arith, nat_tests)
  first_step false place count false is = grind (arith, nat_tests)

  pub first_within : (xs : List X) → ltb (position_or_len test xs) (length xs) ≡ list_any test xs
  first_within [] = refl
  first_within (x ∷ xs) = first_step (test x) (position_or_len test xs) (length xs) (list_any test xs) (first_within xs)

  is_place : (within : Bool) (place : ℕ) → is_some (cond within (Some place) None) ≡ within
  is_place true place = refl
  is_place false place = refl

  pub first_any : (found : Option ℕ) (xs : List X) → found ≡ cond (ltb (position_or_len test xs) (length xs)) (Some (position_or_len test xs)) None
      → is_some found ≡ list_any test xs
  first_any found xs is = ap is_some is ∙ is_place (ltb (position_or_len test xs) (length xs)) (position_or_len test xs) ∙ first_within xs
