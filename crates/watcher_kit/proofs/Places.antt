-- The least place that passes a test, place by place.
use Rattle.std.proofs.Common.{ℕ, zero, suc, ◌≡◌, ◌+◌, ◌-◌, ◌<◌, ◌≤◌, Bool, true, false, cond, List, length, Some, None, refl, ap, sym, ◌∙◌, inl, inr, min, arith}
use Rattle.std.proofs.Math.Nat.{min-le_right}
use Rattle.std.proofs.lemmas.Bool.{cond-true, cond-false, cases_lt, le-ltb}
use Rattle.std.specs.List.{find, range_with_len}
use Rattle.edit_model.specs.Minds.{first_place, has_spaces}

module _ (test : ℕ → Bool) where
  -- it is this one
  pub first_here : (at end : ℕ) → at < end → test at ≡ true → Some at ≡ first_place test at end
  first_here at end before passes =
      let count : end - at ≡ suc (end - (at + 1)) = omega arith in
      sym (ap (λ n. find test (range_with_len at n)) count ∙ cond-true (test at) (Some at) (first_place test (at + 1) end) passes)

  -- it is the first behind this one
  pub first_behind : (at end : ℕ) → at < end → test at ≡ false → first_place test (at + 1) end ≡ first_place test at end
  first_behind at end before fails =
      let count : end - at ≡ suc (end - (at + 1)) = omega arith in
      sym (ap (λ n. find test (range_with_len at n)) count ∙ cond-false (test at) (Some at) (first_place test (at + 1) end) fails)

  -- there is none
  pub first_none : (at end : ℕ) → end ≤ at → None ≡ first_place test at end
  first_none at end behind =
      let count : end - at ≡ 0 = omega arith in
      sym (ap (λ n. find test (range_with_len at n)) count)

-- places from an end on fail the test
module _ (test : ℕ → Bool) (end : ℕ) (fails : (at : ℕ) → end ≤ at → test at ≡ false) where
  -- there is none behind the end
  none_behind : (count from : ℕ) → end ≤ from → find test (range_with_len from count) ≡ None
  none_behind zero from behind = refl
  none_behind (suc count) from behind =
      cond-false (test from) (Some from) (find test (range_with_len (from + 1) count)) (fails from behind)
      ∙ none_behind count (from + 1) (omega (arith, behind))

  -- among so many, it is the first before the end
  before_end : (count from : ℕ) → find test (range_with_len from count) ≡ find test (range_with_len from (min (from + count) end - from))
  before_end zero from =
      let none : min (from + 0) end - from ≡ 0 = omega arith in
      sym (ap (λ n. find test (range_with_len from n)) none)
  before_end (suc count) from = elim (cases_lt from end) [
    | inl before ↦
        let more : min (from + suc count) end - from ≡ suc (min (from + 1 + count) end - (from + 1)) = omega arith in
        ap (cond (test from) (Some from)) (before_end count (from + 1)) ∙ sym (ap (λ n. find test (range_with_len from n)) more)
    | inr behind ↦
        let none : min (from + suc count) end - from ≡ 0 = omega arith in
        none_behind (suc count) from behind ∙ sym (ap (λ n. find test (range_with_len from n)) none)
  ]

  pub first_before_end : (from to : ℕ) → first_place test from to ≡ first_place test from (min to end)
  first_before_end from to =
      let same : min (from + (to - from)) end - from ≡ min to end - from = omega arith in
      before_end (to - from) from ∙ ap (λ n. find test (range_with_len from n)) same

-- a place before the lesser of two is before the second
pub below_min : (a b at end : ℕ) → end ≡ min a b → at < end → at < b
below_min a b at end is before = omega (arith, is, min-le_right a b)

-- no two spaces stand together from the end of the text on
pub no_spaces : (units : List ℕ) (at : ℕ) → length units ≤ at → has_spaces units at ≡ false
no_spaces units at behind =
    rw (le-ltb at (length units) behind) refl
