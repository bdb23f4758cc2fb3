-- The first element that passes, in two lists one behind the other, and ranges in which an end is pulled.
use Rattle.std.proofs.Common.{◌≡◌, ℕ, ◌+◌, ◌<◌, ◌≤◌, ◌&&◌, ◌||◌, Bool, true, false, not, cond, eqb, ltb, leb, List, [], ◌∷◌, ◌++◌, length, Some, None, refl, ap, ◌∙◌, arith, length-append}
use Rattle.std.specs.List.{position, position_or_len}
use Rattle.std.proofs.lemmas.Bool.{lt-ltb, ltb-true, ltb-false, le-ltb}
use Rattle.std.proofs.lemmas.List.Folds.{prefix_len-append}
use Rattle.std.proofs.lemmas.List.Sums.{prefix_len-le-length}
use Rattle.std.proofs.lemmas.Bool.Decides.{nat_tests}
use Rattle.edit_model.specs.State.{Span}
use Rattle.edit_model.specs.Flags.{kind_of, is_paragraph}
use Rattle.text_cut.specs.Pulled.{has_pulled_end, pulls_one}

found : (test : Bool) (a i : ℕ) → cond test (Some a) None ≡ Some i → (test ≡ true) × (a ≡ i)
found true a i is = (refl, cc)
found false a i is = absurd (cc)

missed : (test : Bool) (a : ℕ) → cond test (Some a) None ≡ None → test ≡ false
missed true a is = absurd (cc)
missed false a is = refl

module _ {X : Type 0} (p : X → Bool) (xs ys : List X) where
  both : position_or_len p (xs ++ ys) ≡ cond (eqb (position_or_len p xs) (length xs)) (length xs + position_or_len p ys) (position_or_len p xs)
  both = prefix_len-append (λ x. not (p x)) xs ys

  le_front : position_or_len p xs ≤ length xs
  le_front = prefix_len-le-length (λ x. not (p x)) xs

  within_front : (i : ℕ) → position p xs ≡ Some i → position_or_len p xs < length xs
  within_front i is = ltb-true _ _ (found (ltb (position_or_len p xs) (length xs)) (position_or_len p xs) i is).0

  past_front : position p xs ≡ None → position_or_len p xs ≡ length xs
  past_front none =
      let past : length xs ≤ position_or_len p xs =
      ltb-false _ _ (missed (ltb (position_or_len p xs) (length xs)) (position_or_len p xs) none) in
      omega (arith, le_front)

  -- it stands in the first list
  pub position-front : (i : ℕ) → position p xs ≡ Some i → position p (xs ++ ys) ≡ Some i
  position-front i is =
      let below : position_or_len p xs < length xs = within_front i is in
      let at : position_or_len p (xs ++ ys) ≡ position_or_len p xs = both ∙ grind (arith, nat_tests) in
      let total : position_or_len p xs < length (xs ++ ys) = omega (arith, length-append xs ys) in
      rw (at, lt-ltb _ _ total) (ap Some (found (ltb (position_or_len p xs) (length xs)) (position_or_len p xs) i is).1)

  -- it stands in the second list
  pub position-back : position p xs ≡ None → (i : ℕ) → position p ys ≡ Some i → position p (xs ++ ys) ≡ Some (length xs + i)
  position-back none i is =
      let end = past_front none in
      let f = found (ltb (position_or_len p ys) (length ys)) (position_or_len p ys) i is in
      let below : position_or_len p ys < length ys = ltb-true _ _ f.0 in
      let at : position_or_len p (xs ++ ys) ≡ length xs + position_or_len p ys = both ∙ grind (arith, nat_tests) in
      let total : length xs + position_or_len p ys < length (xs ++ ys) = omega (arith, length-append xs ys) in
      rw (at, lt-ltb _ _ total) (ap (λ n. Some (length xs + n)) f.1)

  -- it stands in neither
  pub position-neither : position p xs ≡ None → position p ys ≡ None → position p (xs ++ ys) ≡ None
  position-neither none none' =
      let end = past_front none in
      let past : length ys ≤ position_or_len p ys = ltb-false _ _ (missed (ltb (position_or_len p ys) (length ys)) (position_or_len p ys) none') in
      let at : position_or_len p (xs ++ ys) ≡ length xs + position_or_len p ys = both ∙ grind (arith, nat_tests) in
      let total : length (xs ++ ys) ≤ length xs + position_or_len p ys = omega (arith, length-append xs ys) in
      rw (at, le-ltb _ _ total) refl

-- ---- ranges

pulled_range : (s e x y : ℕ) (paragraph : Bool) → (((ltb s x && leb x e) || (ltb s y && leb y e)) && paragraph) ≡ true → s < e
pulled_range s e x y paragraph is = grind (arith, nat_tests)

first_or : (test rest : Bool) {P : Type 0} → (test ≡ true → P) → (rest ≡ true → P) → (test || rest) ≡ true → P
first_or true rest here there is = here refl
first_or false rest here there is = there is

-- a range in which an end is pulled isn't empty
pub some_pulled : (s e : ℕ) (spans : List Span) → pulls_one s e spans ≡ true → s < e
some_pulled s e [] pulls = absurd (cc)
some_pulled s e (span ∷ spans) pulls =
    first_or (has_pulled_end s e span) (pulls_one s e spans)
    (λ is. pulled_range s e span.start span.end (is_paragraph (kind_of span.flags)) is) (some_pulled s e spans) pulls
