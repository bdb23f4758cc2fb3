-- Rows that touch a range and are emptied, in order of attachment.
use Rattle.std.proofs.Common.{◌≡◌, ℕ, ◌≤◌, ◌&&◌, Bool, true, false, leb, ltb, List, [], ◌∷◌, map, length, refl, sym, subst, ap, ◌∙◌, arith}
use Rattle.std.specs.List.{All, AllByRecursion, filter, range_with_len}
use Rattle.std.specs.List.Sorted.{IsNonDecreasingBy, IsPermutation}
use Rattle.std.proofs.lemmas.Bool.Decides.{nat_tests}
use Rattle.std.proofs.lemmas.List.Elements.{All-filter, recursion_from_All}
use Rattle.std.proofs.lemmas.List.Sorted.{All-permutation, IsPermutation-map, IsPermutation-trans}
use Rattle.std.proofs.lemmas.Option.{get_or_from_slice_get}
use Rattle.edit_base.specs.declared.rows.SpanRow.{SpanRow}
use Rattle.edit_model.specs.Flags.{is_point_mark, kind_of}
use Rattle.edit_model.specs.State.{Span}
use Rattle.edit_model.specs.Over.{touches}
use Rattle.edit_model.specs.Replaced.{emptied_spans, is_emptied}
use Rattle.edit_model.specs.Rows.{IsAtOrder, span_of, spans_in}
use Rattle.edit_model.proofs.OverLists.{filter-both}
use Rattle.interval_tree.specs.Answers.{IsForward, orders_of, touching}
use Rattle.interval_tree.proofs.QueryLists.{Climbs, IsPermutation-filter, climbs_from, filter-map, one_order, read_all}
use Rattle.interval_tree.proofs.Ranges.{all_range}
use Rattle.moved_rows.specs.Removing.{passing}
use Rattle.moved_rows.proofs.Places.{passing_rises}
use Rattle.span_changes.proofs.Lists.{filter_alike}
use Rattle.span_table.specs.Table.{no_span, span_at}

-- ---- rows by their orders

climbs_orders : (rows : List SpanRow) → Climbs (λ (row : SpanRow). row.order) rows → Climbs (λ (i : ℕ). i) (orders_of rows)
climbs_orders [] up = tt
climbs_orders (row ∷ rows) up = (each rows up.0, climbs_orders rows up.1)
  where
    each : (others : List SpanRow) → AllByRecursion (λ (other : SpanRow). row.order ≤ other.order) others
        → AllByRecursion (λ i. row.order ≤ i) (orders_of others)
    each [] all = tt
    each (other ∷ others) all = (all.0, each others all.1)

read_orders : (spans : List Span) (rows : List SpanRow) → AllByRecursion (IsAtOrder spans) rows → spans_in rows ≡ map (span_at spans) (orders_of rows)
read_orders spans [] at = refl
read_orders spans (row ∷ rows) at =
    ap (λ span. span ∷ spans_in rows) (sym (get_or_from_slice_get spans row.order (span_of row) no_span at.0))
    ∙ ap (λ rest. span_at spans row.order ∷ rest) (read_orders spans rows at.1)

read_passing : (test : Span → Bool) (spans : List Span) → map (span_at spans) (passing test spans) ≡ filter test spans
read_passing test spans =
    sym (filter-map test (span_at spans) (range_with_len 0 (length spans))) ∙ ap (filter test) (read_all spans no_span)

tests_alike : (test : Span → Bool) (spans : List Span) (rows : List SpanRow) → AllByRecursion (IsAtOrder spans) rows
    → AllByRecursion (λ (row : SpanRow). test (span_of row) ≡ test (span_at spans row.order)) rows
tests_alike test spans [] at = tt
tests_alike test spans (row ∷ rows) at =
    (ap test (sym (get_or_from_slice_get spans row.order (span_of row) no_span at.0)), tests_alike test spans rows at.1)

orders_filtered : (test : Span → Bool) (spans : List Span) (rows : List SpanRow) → All (IsAtOrder spans) rows
    → orders_of (filter (λ row. test (span_of row)) rows) ≡ filter (λ i. test (span_at spans i)) (orders_of rows)
orders_filtered test spans rows at =
    ap orders_of (filter_alike (λ (row : SpanRow). test (span_of row)) (λ (row : SpanRow). test (span_at spans row.order)) rows
    (tests_alike test spans rows (recursion_from_All (IsAtOrder spans) rows at)))
    ∙ sym (filter-map (λ i. test (span_at spans i)) (λ (row : SpanRow). row.order) rows)

-- ---- what is emptied touches

touch_test : (some rest : Bool) (start end first last : ℕ) → first ≤ last
    → ((leb first end && leb start last) && (some && ltb start end && leb start first && leb last end && rest))
    ≡ (some && ltb start end && leb start first && leb last end && rest)
touch_test true true start end first last forward = grind (arith, nat_tests)
touch_test true false start end first last forward = grind (arith, nat_tests)
touch_test false true start end first last forward = grind (arith, nat_tests)
touch_test false false start end first last forward = grind (arith, nat_tests)

module _ (start end grown : ℕ) (spans : List Span) where
  emptied_touching : All IsForward spans → filter (λ i. is_emptied start end grown (span_at spans i)) (touching start end spans)
      ≡ passing (is_emptied start end grown) spans
  emptied_touching forward =
      filter-both (λ i. touches start end (span_at spans i)) (λ i. is_emptied start end grown (span_at spans i))
      (λ i. is_emptied start end grown (span_at spans i)) (range_with_len 0 (length spans))
      (recursion_from_All (λ i. (touches start end (span_at spans i) && is_emptied start end grown (span_at spans i))
      ≡ is_emptied start end grown (span_at spans i)) (range_with_len 0 (length spans))
      (λ k d below. touch_test (is_point_mark (kind_of (span_at spans _).flags)) _ start end (span_at spans _).start (span_at spans _).end
      (forward _ no_span (all_range (length spans) k d below))))

  module _ (found kept sorted : List SpanRow) (at : All (IsAtOrder spans) found) (forward : All IsForward spans)
      (given : IsPermutation (touching start end spans) (orders_of found))
      (kept_is : kept ≡ filter (λ row. is_emptied start end grown (span_of row)) found)
      (same : IsPermutation kept sorted) (up : IsNonDecreasingBy (λ (row : SpanRow). row.order) sorted) where
    kept_orders : IsPermutation (passing (is_emptied start end grown) spans) (orders_of kept)
    kept_orders =
        subst (λ list. IsPermutation list (orders_of kept)) (emptied_touching forward)
        (subst (IsPermutation (filter (λ i. is_emptied start end grown (span_at spans i)) (touching start end spans)))
        (sym (ap orders_of kept_is ∙ orders_filtered (is_emptied start end grown) spans found at))
        (IsPermutation-filter (λ i. is_emptied start end grown (span_at spans i)) (touching start end spans) (orders_of found) given))

    pub sorted_orders : orders_of sorted ≡ passing (is_emptied start end grown) spans
    sorted_orders =
        one_order (λ (i : ℕ). i) (passing (is_emptied start end grown) spans) (orders_of sorted) (passing_rises (is_emptied start end grown) spans)
        (IsPermutation-trans _ (orders_of kept) _ kept_orders (IsPermutation-map (λ (row : SpanRow). row.order) kept sorted same))
        (climbs_orders sorted (climbs_from (λ (row : SpanRow). row.order) sorted up))

    sorted_at : All (IsAtOrder spans) sorted
    sorted_at =
        All-permutation (IsAtOrder spans) kept sorted same
        (subst (All (IsAtOrder spans)) (sym kept_is) (All-filter (λ row. is_emptied start end grown (span_of row)) (IsAtOrder spans) found at))

    pub sorted_spans : spans_in sorted ≡ emptied_spans start end grown spans
    sorted_spans =
        read_orders spans sorted (recursion_from_All (IsAtOrder spans) sorted sorted_at) ∙ ap (map (span_at spans)) sorted_orders
        ∙ read_passing (is_emptied start end grown) spans
