-- The ends of a selection that goes, one after the other.
use Rattle.std.proofs.Common.{◌≡◌, ◌≢◌, ℕ, ◌<◌, ◌≤◌, ◌++◌, ◌||◌, zero, suc, Bool, false, not, List, [], ◌∷◌, length, get_or, refl, sym, ap, ◌∙◌, arith, eq-eqb, eqb, ◌-◌, Some, inl, inr}
use Rattle.std.specs.Prelude.{nat_lt}
use Rattle.std.specs.List.{AllByRecursion, filter}
use Rattle.std.proofs.lemmas.Bool.{cases_Bool, eqb-true, ne_eqb}
use Rattle.std.proofs.lemmas.Bool.Decides.{nat_tests}
use Rattle.edit_model.specs.State.{Span}
use Rattle.edit_model.specs.Attached.{has_id, is_attached, spans_of, without_span}
use Rattle.edit_model.specs.Selection.{is_of_selection}
use Rattle.edit_model.specs.WellFormed.{HasDistinctIds}
use Rattle.edit_model.proofs.SpanLists.{all_each, all_fail}
use Rattle.span_table.specs.Table.{no_span, row_place}
use Rattle.span_changes.proofs.Lists.{filter_alike}
use Rattle.span_changes.proofs.Spans.{absent_found, at_place, before_at, behind_at}

module _ (a b : ℕ) where
  abbrev has_either : Span → Bool
  has_either span = has_id a span || has_id b span

  only_second : (spans : List Span) → AllByRecursion (λ span. has_id a span ≡ false) spans → filter has_either spans ≡ spans_of b spans
  only_second [] apart = refl
  only_second (span ∷ spans) apart = rw (apart.0, only_second spans apart.1) refl

  -- where the first isn't attached
  pub without_first : (spans : List Span) → is_attached a spans ≡ false → spans_of a spans ++ spans_of b spans ≡ filter has_either spans
  without_first spans absent =
      ap (λ found. found ++ spans_of b spans) (absent_found a spans absent) ∙ sym (only_second spans (all_fail (has_id a) spans absent))

  -- where the first comes before the second
  first_then : (spans : List Span) (i j : ℕ) (d : Span) → a ≢ b → HasDistinctIds spans → i ≤ j → j < length spans
      → (get_or spans i d).id ≡ a → (get_or spans j d).id ≡ b → filter has_either spans ≡ spans_of a spans ++ spans_of b spans
  first_then [] i j d other distinct order within is then = absurd (omega arith)
  first_then (span ∷ spans) zero j d other distinct order within is then =
      let apart = behind_at a span spans distinct.0 is in
      let not_second : has_id b span ≡ false = ne_eqb span.id b (λ same. other (sym is ∙ same)) in
      rw (eq-eqb span.id a is, not_second, absent_behind spans apart)
      (ap (λ rest. span ∷ rest) (only_second spans apart))
    where
      absent_behind : (rest : List Span) → AllByRecursion (λ one. has_id a one ≡ false) rest → spans_of a rest ≡ []
      absent_behind [] apart = refl
      absent_behind (one ∷ rest) apart = rw (apart.0, absent_behind rest apart.1) refl
  first_then (span ∷ spans) (suc i) zero d other distinct order within is then = absurd (omega arith)
  first_then (span ∷ spans) (suc i) (suc j) d other distinct order within is then =
      rw (
        before_at a span spans i d distinct.0 (omega arith) is,
        before_at b span spans j d distinct.0 (omega arith) then,
      )
      (first_then spans i j d other distinct.1 (omega arith) (omega arith) is then)

  -- one after the other
  without_both : (spans : List Span) → without_span b (without_span a spans) ≡ filter (λ span. not (has_either span)) spans
  without_both [] = refl
  without_both (span ∷ spans) = elim (cases_Bool (has_id a span)) [
    | inl is ↦ rw is (without_both spans)
    | inr is ↦ rw (is, without_both spans) refl
  ]

  second_stays : (spans : List Span) → a ≢ b → spans_of b (without_span a spans) ≡ spans_of b spans
  second_stays [] other = refl
  second_stays (span ∷ spans) other = elim (cases_Bool (has_id a span)) [
    | inl is ↦ (let not_second : has_id b span ≡ false = ne_eqb span.id b (λ same. other (sym (eqb-true span.id a is) ∙ same)) in
        rw (is, not_second) (second_stays spans other))
    | inr is ↦ rw (is, second_stays spans other) refl
  ]

-- ---- the two ids of the selection

start_or_end : (id : ℕ) → nat_lt id 2 ≡ (eqb id 0 || eqb id 1)
start_or_end zero = refl
start_or_end (suc zero) = refl
start_or_end (suc (suc id)) = grind (arith, nat_tests)

end_or_start : (id : ℕ) → nat_lt id 2 ≡ (eqb id 1 || eqb id 0)
end_or_start zero = refl
end_or_start (suc zero) = refl
end_or_start (suc (suc id)) = grind (arith, nat_tests)

module _ (spans : List Span) where
  both_start : filter (has_either 0 1) spans ≡ filter is_of_selection spans
  both_start = filter_alike (has_either 0 1) is_of_selection spans
      (all_each (λ span. has_either 0 1 span ≡ is_of_selection span) (λ span. sym (start_or_end span.id)) spans)

  both_end : filter (has_either 1 0) spans ≡ filter is_of_selection spans
  both_end = filter_alike (has_either 1 0) is_of_selection spans
      (all_each (λ span. has_either 1 0 span ≡ is_of_selection span) (λ span. sym (end_or_start span.id)) spans)

  pub without_start : is_attached 0 spans ≡ false → spans_of 0 spans ++ spans_of 1 spans ≡ filter is_of_selection spans
  without_start absent = without_first 0 1 spans absent ∙ both_start

  pub without_end : is_attached 1 spans ≡ false → spans_of 1 spans ++ spans_of 0 spans ≡ filter is_of_selection spans
  without_end absent = without_first 1 0 spans absent ∙ both_end

  module _ (first last : ℕ) (distinct : HasDistinctIds spans) (starts : row_place 0 spans ≡ Some first) (ends : row_place 1 spans ≡ Some last) where
    pub from_start : first ≤ last → spans_of 0 spans ++ spans_of 1 spans ≡ filter is_of_selection spans
    from_start order =
        let start = at_place 0 spans first starts in
        let end = at_place 1 spans last ends in
        sym (first_then 0 1 spans first last no_span (λ same. absurd (omega (arith, same))) distinct order end.within start.id_is end.id_is) ∙ both_start

    pub from_end : last ≤ first → spans_of 1 spans ++ spans_of 0 spans ≡ filter is_of_selection spans
    from_end order =
        let start = at_place 0 spans first starts in
        let end = at_place 1 spans last ends in
        sym (first_then 1 0 spans last first no_span (λ same. absurd (omega (arith, same))) distinct order start.within end.id_is start.id_is) ∙ both_end

-- one after the other
pub without_ends : (first : ℕ) → first ≤ 1 → (spans : List Span)
    → without_span (1 - first) (without_span first spans) ≡ filter (λ span. not (is_of_selection span)) spans
without_ends zero within spans =
    without_both 0 1 spans
    ∙ filter_alike (λ span. not (has_either 0 1 span)) (λ span. not (is_of_selection span)) spans
    (all_each (λ span. not (has_either 0 1 span) ≡ not (is_of_selection span)) (λ span. ap not (sym (start_or_end span.id))) spans)
without_ends (suc zero) within spans =
    without_both 1 0 spans
    ∙ filter_alike (λ span. not (has_either 1 0 span)) (λ span. not (is_of_selection span)) spans
    (all_each (λ span. not (has_either 1 0 span) ≡ not (is_of_selection span)) (λ span. ap not (sym (end_or_start span.id))) spans)
without_ends (suc (suc first)) within spans = absurd (omega arith)

pub second_end : (first : ℕ) → first ≤ 1 → (spans : List Span) → spans_of (1 - first) (without_span first spans) ≡ spans_of (1 - first) spans
second_end zero within spans = second_stays 0 1 spans (λ same. absurd (omega (arith, same)))
second_end (suc zero) within spans = second_stays 1 0 spans (λ same. absurd (omega (arith, same)))
second_end (suc (suc first)) within spans = absurd (omega arith)
