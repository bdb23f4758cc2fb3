-- Tests that the span of an id passes, in a list of distinct ids.
use Rattle.std.proofs.Common.{◌≡◌, ◌==◌, ℕ, ◌<◌, ◌&&◌, zero, suc, Bool, true, false, List, [], ◌∷◌, map, length, Some, refl, sym, subst, arith, eq-eqb}
use Rattle.std.specs.List.{AllByRecursion, list_any}
use Rattle.std.proofs.Math.Bool.{or-false}
use Rattle.std.proofs.lemmas.Bool.{eqb-true, ne_eqb, or_from}
use Rattle.std.proofs.lemmas.List.Quantifiers.{position-Some}
use Rattle.std.proofs.lemmas.Map.Keys.{IsDistinct-head, IsDistinct-tail}
use Rattle.edit_model.specs.State.{Span}
use Rattle.edit_model.specs.Attached.{has_id, is_attached}
use Rattle.edit_model.specs.WellFormed.{HasDistinctIds}
use Rattle.edit_model.proofs.SpanLists.{all_fail}
use Rattle.span_table.specs.declared.kept.KeptRow.{KeptRow}
use Rattle.span_table.specs.Table.{Rows, no_span, row_place, seen, span_at, spans_of}
use Rattle.interval_tree.specs.Ids.{HaveDistinctIds, ids_of, same_number}

module _ (id : ℕ) (test : Span → Bool) where
  none_pass : (spans : List Span) → AllByRecursion (λ other. has_id id other ≡ false) spans
      → list_any (λ other. has_id id other && test other) spans ≡ false
  none_pass [] apart = refl
  none_pass (other ∷ spans) apart = rw apart.0 (none_pass spans apart.1)

  -- none passes where the id isn't attached
  pub absent_pass : (spans : List Span) → is_attached id spans ≡ false → list_any (λ other. has_id id other && test other) spans ≡ false
  absent_pass spans absent = none_pass spans (all_fail (has_id id) spans absent)

  first_passes : (spans : List Span) (at : ℕ) → HasDistinctIds spans → at < length spans → has_id id (span_at spans at) ≡ true
      → ((k : ℕ) → k < at → has_id id (span_at spans k) ≡ false)
      → list_any (λ other. has_id id other && test other) spans ≡ test (span_at spans at)
  first_passes [] at distinct below is before = absurd (omega arith)
  first_passes (other ∷ spans) zero distinct below is before =
      rw (is, absent_pass spans (subst (λ other_id. is_attached other_id spans ≡ false) (eqb-true other.id id is) distinct.0)) (or-false (test other))
  first_passes (other ∷ spans) (suc at) distinct below is before =
      rw (before 0 (omega arith)) (first_passes spans at distinct.1 (omega arith) is (λ k h. before (suc k) (omega arith)))

  -- some span of the id passes exactly where the one at its place does
  pub found_passes : (spans : List Span) (at : ℕ) → HasDistinctIds spans → row_place id spans ≡ Some at
      → list_any (λ other. has_id id other && test other) spans ≡ test (span_at spans at)
  found_passes spans at distinct found =
      let is = position-Some (has_id id) spans at no_span found in
      first_passes spans at distinct is.0 is.1 is.2

-- ---- rows of distinct ids

absent_seen : (gap room id : ℕ) (rows : List KeptRow) → AllByRecursion (λ other. (id == other) ≡ false) (map (λ row. row.id) rows)
    → is_attached id (map (seen gap room) rows) ≡ false
absent_seen gap room id [] apart = refl
absent_seen gap room id (row ∷ rows) apart =
    or_from (has_id id (seen gap room row)) (is_attached id (map (seen gap room) rows))
    (ne_eqb row.id id (λ same. let other = eq-eqb id row.id (sym same) in let apart_first = apart.0 in cc))
    (absent_seen gap room id rows apart.1)

distinct_seen : (gap room : ℕ) (rows : List KeptRow) → HaveDistinctIds rows → HasDistinctIds (map (seen gap room) rows)
distinct_seen gap room [] distinct = tt
distinct_seen gap room (row ∷ rows) distinct = (
  absent_seen gap room row.id rows (IsDistinct-head same_number row.id (ids_of rows) distinct),
  distinct_seen gap room rows (IsDistinct-tail same_number row.id (ids_of rows) distinct),
)

-- the spans that are seen have distinct ids too
pub distinct_spans : (rows : Rows) → HaveDistinctIds rows.kept → HasDistinctIds (spans_of rows)
distinct_spans rows distinct = distinct_seen rows.gap rows.room rows.kept distinct
