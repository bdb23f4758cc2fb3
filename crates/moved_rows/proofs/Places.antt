-- The places of the spans that pass a test rise.
use Rattle.std.proofs.Common.{◌≡◌, ℕ, ◌+◌, ◌<◌, ◌≤◌, ◌++◌, zero, suc, Bool, true, false, cond, List, [], ◌∷◌, length, slice_index, ap, ◌∙◌, arith}
use Rattle.std.specs.List.{All, AllByRecursion, filter, range_with_len}
use Rattle.std.proofs.lemmas.List.Elements.{All-filter, All-from_recursion, filter-append}
use Rattle.edit_model.specs.State.{Span}
use Rattle.interval_tree.specs.Answers.{IsRising}
use Rattle.interval_tree.proofs.QueryLists.{Rises, all_kept}
use Rattle.interval_tree.proofs.Ranges.{all_range, range_long, range_next}
use Rattle.interval_tree.proofs.QueryRows.{filter_short}
use Rattle.moved_rows.specs.Removing.{passing}
use Rattle.span_table.specs.Table.{span_at}

above : (low a n : ℕ) → low < a → AllByRecursion (λ i. low < i) (range_with_len a n)
above low a zero less = tt
above low a (suc n) less = (less, above low (a + 1) n (omega (arith, less)))

range_rises : (a n : ℕ) → Rises (λ i. i) (range_with_len a n)
range_rises a zero = tt
range_rises a (suc n) = (above a (a + 1) n (omega arith), range_rises (a + 1) n)

rises_kept : (test : ℕ → Bool) (xs : List ℕ) → Rises (λ i. i) xs → Rises (λ i. i) (filter test xs)
rises_kept test [] up = tt
rises_kept test (x ∷ xs) up =
    elim (test x) as (λ passes. Rises (λ i. i) (cond passes (x ∷ filter test xs) (filter test xs))) [
      | true ↦ (all_kept (λ y. x < y) test xs up.0, rises_kept test xs up.1)
      | false ↦ rises_kept test xs up.1
    ]

rising_from : (xs : List ℕ) → Rises (λ i. i) xs → (i j : ℕ) → i < j → j < length xs → slice_index xs i < slice_index xs j
rising_from [] up i j less within = absurd (omega (arith, within))
rising_from (x ∷ xs) up i zero less within = absurd (omega (arith, less))
rising_from (x ∷ xs) up zero (suc j) less within = All-from_recursion (λ y. x < y) xs up.0 j 0 (omega (arith, within))
rising_from (x ∷ xs) up (suc i) (suc j) less within = rising_from xs up.1 i j (omega (arith, less)) (omega (arith, within))

pub passing_rises : (test : Span → Bool) (spans : List Span) → Rises (λ i. i) (passing test spans)
passing_rises test spans = rises_kept (λ i. test (span_at spans i)) (range_with_len 0 (length spans)) (range_rises 0 (length spans))

pub passing_rising : (test : Span → Bool) (spans : List Span) → IsRising (passing test spans)
passing_rising test spans = rising_from (passing test spans) (passing_rises test spans)

pub passing_within : (test : Span → Bool) (spans : List Span) → All (λ i. i < length spans) (passing test spans)
passing_within test spans =
    All-filter (λ i. test (span_at spans i)) (λ i. i < length spans) (range_with_len 0 (length spans)) (all_range (length spans))

-- ---- the places of the first ones

module _ (test : Span → Bool) (spans : List Span) where
  -- below a place
  abbrev pub passing_to : ℕ → List ℕ
  passing_to p = filter (λ i. test (span_at spans i)) (range_with_len 0 p)

  pub passing_more : (p : ℕ) → passing_to (p + 1) ≡ passing_to p ++ cond (test (span_at spans p)) (p ∷ []) []
  passing_more p =
      ap (filter (λ i. test (span_at spans i))) (range_next p)
      ∙ filter-append (λ i. test (span_at spans i)) (range_with_len 0 p) (p ∷ [])

  pub passing_few : (p : ℕ) → length (passing_to p) ≤ p
  passing_few p = omega (arith, filter_short (λ i. test (span_at spans i)) (range_with_len 0 p), range_long p)
