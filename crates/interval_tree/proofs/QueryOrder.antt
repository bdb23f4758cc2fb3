-- Rows in order of attachment that are sorted by rank are the list in the order of a query.
use Rattle.std.proofs.Common.{◌≡◌, ℕ, ◌+◌, ◌-◌, ◌*◌, ◌%◌, ◌<◌, ◌≤◌, Bool, true, false, cond, leb, List, [], ◌∷◌, length, get_or, map, refl, sym, ap, ◌∙◌, zero, suc, subst, arith}
use Rattle.std.specs.List.{All, AllByRecursion, filter, range_with_len}
use Rattle.std.specs.List.Sorted.{IsNonDecreasingBy, IsPermutation}
use Rattle.std.proofs.lemmas.Bool.Decides.{nat_tests}
use Rattle.std.proofs.lemmas.List.{map-id}
use Rattle.std.proofs.lemmas.List.Elements.{All-filter, All-map}
use Rattle.std.proofs.lemmas.List.Sorted.{IsPermutation-refl, IsPermutation-cons, IsPermutation-trans, IsPermutation-sym, IsPermutation-map}
use Rattle.std.proofs.lemmas.Option.{slice_get-get_or}
use Rattle.edit_base.specs.declared.rows.Pick.{Pick}
use Rattle.edit_base.specs.declared.rows.SpanRow.{SpanRow}
use Rattle.edit_model.specs.State.{Span}
use Rattle.edit_model.specs.Flags.{priority_of}
use Rattle.edit_model.specs.Rows.{IsAtOrder, span_of, spans_in}
use Rattle.edit_model.specs.Over.{by_priority, into, over}
use Rattle.interval_tree.specs.declared.walk.Asked.{Asked}
use Rattle.interval_tree.specs.declared.walk.Asked.TheVariants.{Over, Touching}
use Rattle.interval_tree.specs.Answers.{orders_of, touching}
use Rattle.interval_tree.specs.Order.{rank_of}
use Rattle.span_table.specs.Table.{no_span, span_at}
use Rattle.interval_tree.specs.Walk.{answers, found, row_at}
use Rattle.interval_tree.proofs.QueryLists.{IsPermutation-filter, Rises, all_weaker, climbs_from, filter-map, one_order, read_all, two_heads}

-- ---- the order of a query, of rows

row_into : SpanRow → List SpanRow → List SpanRow
row_into row [] = row ∷ []
row_into row (other ∷ others) = cond (leb (priority_of other.flags) (priority_of row.flags)) (row ∷ other ∷ others) (other ∷ row_into row others)

in_order : List SpanRow → List SpanRow
in_order [] = []
in_order (row ∷ rows) = row_into row (in_order rows)

spans_step : (passes : Bool) (row other : SpanRow) (others rest : List SpanRow) (more : List Span) → spans_in rest ≡ more
    → spans_in (cond passes (row ∷ other ∷ others) (other ∷ rest)) ≡ cond passes (span_of row ∷ span_of other ∷ spans_in others) (span_of other ∷ more)
spans_step true row other others rest more is = refl
spans_step false row other others rest more is = ap (λ spans. span_of other ∷ spans) is

spans_into : (row : SpanRow) (rows : List SpanRow) → spans_in (row_into row rows) ≡ into (span_of row) (spans_in rows)
unfolding row_into
spans_into row [] = refl
spans_into row (other ∷ others) =
    spans_step (leb (priority_of other.flags) (priority_of row.flags)) row other others (row_into row others) (into (span_of row) (spans_in others))
    (spans_into row others)

spans_in_order : (rows : List SpanRow) → spans_in (in_order rows) ≡ by_priority (spans_in rows)
unfolding in_order
spans_in_order [] = refl
spans_in_order (row ∷ rows) = spans_into row (in_order rows) ∙ ap (into (span_of row)) (spans_in_order rows)

same_step : (passes : Bool) (row other : SpanRow) (others rest : List SpanRow) → IsPermutation (row ∷ others) rest
    → IsPermutation (row ∷ other ∷ others) (cond passes (row ∷ other ∷ others) (other ∷ rest))
same_step true row other others rest same = IsPermutation-refl (row ∷ other ∷ others)
same_step false row other others rest same =
    IsPermutation-trans (row ∷ other ∷ others) (other ∷ row ∷ others) (other ∷ rest) (two_heads row other others)
    (IsPermutation-cons other (row ∷ others) rest same)

same_into : (row : SpanRow) (rows : List SpanRow) → IsPermutation (row ∷ rows) (row_into row rows)
unfolding row_into
same_into row [] = IsPermutation-refl (row ∷ [])
same_into row (other ∷ others) = same_step (leb (priority_of other.flags) (priority_of row.flags)) row other others (row_into row others) (same_into row others)

same_in_order : (rows : List SpanRow) → IsPermutation rows (in_order rows)
unfolding in_order
same_in_order [] = IsPermutation-refl []
same_in_order (row ∷ rows) = IsPermutation-trans (row ∷ rows) (row ∷ in_order rows) (row_into row (in_order rows))
    (IsPermutation-cons row rows (in_order rows) (same_in_order rows)) (same_into row (in_order rows))

-- ---- it rises by rank

rank : ℕ → ℕ → ℕ
rank flags order = (255 - priority_of flags) * 4294967296 + order % 4294967296

rank_by : (a b m n : ℕ) → leb (priority_of b) (priority_of a) ≡ true → m < n → n < 4294967296 → rank a m < rank b n
unfolding rank
rank_by a b m n is less fits = grind (arith, nat_tests)

rank_above : (a b m n : ℕ) → leb (priority_of b) (priority_of a) ≡ false → rank b n < rank a m
unfolding rank
rank_above a b m n is = grind (arith, nat_tests)

-- the order of a row is a place, and less than those behind it
Behind : SpanRow → SpanRow → Type 0
Behind row other = (row.order < other.order) × (other.order < 4294967296)

all_step : (P : SpanRow → Type 0) (passes : Bool) (row other : SpanRow) (others rest : List SpanRow) → P row → AllByRecursion P (other ∷ others)
    → AllByRecursion P rest
    → AllByRecursion P (cond passes (row ∷ other ∷ others) (other ∷ rest))
all_step P true row other others rest here each more = (here, each)
all_step P false row other others rest here each more = (each.0, more)

all_into : (P : SpanRow → Type 0) (row : SpanRow) (rows : List SpanRow) → P row → AllByRecursion P rows → AllByRecursion P (row_into row rows)
unfolding row_into
all_into P row [] here each = (here, tt)
all_into P row (other ∷ others) here each =
    all_step P (leb (priority_of other.flags) (priority_of row.flags)) row other others (row_into row others) here each (all_into P row others here each.1)

rises_step : (passes : Bool) (row other : SpanRow) (others rest : List SpanRow) → leb (priority_of other.flags) (priority_of row.flags) ≡ passes
    → Behind row other → Rises rank_of (other ∷ others) → (rank_of other < rank_of row → AllByRecursion (λ one. rank_of other < rank_of one) rest)
    → Rises rank_of rest
    → Rises rank_of (cond passes (row ∷ other ∷ others) (other ∷ rest))
unfolding rank Behind
rises_step true row other others rest is behind up first more =
    let below : rank_of row < rank_of other = rank_by row.flags other.flags row.order other.order is behind.0 behind.1 in
    ((below, all_weaker (λ one. rank_of other < rank_of one) (λ one. rank_of row < rank_of one) (λ one less. omega (arith, below, less)) others up.0), up)
rises_step false row other others rest is behind up first more =
    (first (rank_above row.flags other.flags row.order other.order is), more)

rises_into : (row : SpanRow) (rows : List SpanRow) → AllByRecursion (Behind row) rows → Rises rank_of rows → Rises rank_of (row_into row rows)
unfolding row_into
rises_into row [] behind up = (tt, tt)
rises_into row (other ∷ others) behind up =
    rises_step (leb (priority_of other.flags) (priority_of row.flags)) row other others (row_into row others) refl behind.0 up
    (λ below. all_into (λ one. rank_of other < rank_of one) row others below up.0) (rises_into row others behind.1 up.1)

-- each row stands before those that were attached after it
Attached : List SpanRow → Type 0
Attached [] = Unit {0}
Attached (row ∷ rows) = AllByRecursion (Behind row) rows × Attached rows

all_in_order : (P : SpanRow → Type 0) (rows : List SpanRow) → AllByRecursion P rows → AllByRecursion P (in_order rows)
unfolding in_order
all_in_order P [] each = tt
all_in_order P (row ∷ rows) each = all_into P row (in_order rows) each.0 (all_in_order P rows each.1)

rises_in_order : (rows : List SpanRow) → Attached rows → Rises rank_of (in_order rows)
unfolding in_order Attached
rises_in_order [] attached = tt
rises_in_order (row ∷ rows) attached = rises_into row (in_order rows) (all_in_order (Behind row) rows attached.0) (rises_in_order rows attached.1)

-- ---- rows of rising places

module _ (spans : List Span) (test : ℕ → Bool) where
  rows_from : ℕ → ℕ → List SpanRow
  rows_from a n = map (row_at spans) (filter test (range_with_len a n))

  Between : ℕ → ℕ → SpanRow → Type 0
  Between low high row = (low ≤ row.order) × (row.order < high)

  between : (a n low high : ℕ) → low ≤ a → a + n ≤ high → AllByRecursion (Between low high) (rows_from a n)
  unfolding rows_from Between
  between a zero low high first last = tt
  between a (suc n) low high first last =
      elim (test a) as (λ passes. AllByRecursion (Between low high) (map (row_at spans)
      (cond passes (a ∷ filter test (range_with_len (a + 1) n)) (filter test (range_with_len (a + 1) n))))) [
        | true ↦ ((omega (arith, first), omega (arith, last)), between (a + 1) n low high (omega (arith, first)) (omega (arith, last)))
        | false ↦ between (a + 1) n low high (omega (arith, first)) (omega (arith, last))
      ]

  attached_from : (a n : ℕ) → a + n ≤ 4294967296 → Attached (rows_from a n)
  unfolding rows_from Attached Behind Between
  attached_from a zero fits = tt
  attached_from a (suc n) fits =
      elim (test a) as (λ passes. Attached (map (row_at spans) (cond passes (a ∷ filter test (range_with_len (a + 1) n))
      (filter test (range_with_len (a + 1) n))))) [
        | true ↦ (
          all_weaker (Between (a + 1) 4294967296) (Behind (row_at spans a)) (λ row is. (omega (arith, is.0), is.1)) (rows_from (a + 1) n)
              (between (a + 1) n (a + 1) 4294967296 (omega arith) (omega (arith, fits))),
          attached_from (a + 1) n (omega (arith, fits)),
        )
        | false ↦ attached_from (a + 1) n (omega (arith, fits))
      ]

-- ---- the answer of a query

abbrev answered : Asked → ℕ → ℕ → List Span → ℕ → Bool
answered asked start end spans i = answers asked start end (span_at spans i)

map_map : {A B C : Type 0} (g : B → C) (f : A → B) (xs : List A) → map g (map f xs) ≡ map (λ x. g (f x)) xs
map_map g f [] = refl
map_map g f (x ∷ xs) = ap (λ rest. g (f x) ∷ rest) (map_map g f xs)

pub found_orders : (asked : Asked) (start end : ℕ) (spans : List Span) (places : List ℕ) → All (λ i. i < length spans) places
    → All (IsAtOrder spans) (found asked start end spans places)
unfolding found
found_orders asked start end spans places within =
    All-map (IsAtOrder spans) (row_at spans) (filter (answered asked start end spans) places)
    (All-filter (answered asked start end spans) (λ i. IsAtOrder spans (row_at spans i)) places
    (λ k d below. slice_get-get_or spans (get_or places k d) no_span (within k d below)))

-- the rows over a range, so far in the order of the places
module _ (asked : Asked) (start end : ℕ) (spans : List Span) (by_start : List ℕ) (all : IsPermutation (range_with_len 0 (length spans)) by_start) where
  found_same : IsPermutation (found asked start end spans (range_with_len 0 (length spans))) (found asked start end spans by_start)
  unfolding found
  found_same = IsPermutation-map (row_at spans) _ _ (IsPermutation-filter (answered asked start end spans) (range_with_len 0 (length spans)) by_start all)

  found_spans : spans_in (found asked start end spans (range_with_len 0 (length spans))) ≡ filter (answers asked start end) spans
  unfolding found
  found_spans =
      map_map span_of (row_at spans) (filter (answered asked start end spans) (range_with_len 0 (length spans)))
      ∙ sym (filter-map (answers asked start end) (span_at spans) (range_with_len 0 (length spans)))
      ∙ ap (filter (answers asked start end)) (read_all spans no_span)

  pub found_sorted : (sorted : List SpanRow) → length spans ≤ 4294967296 → IsPermutation (found asked start end spans by_start) sorted
      → IsNonDecreasingBy rank_of sorted
      → spans_in sorted ≡ by_priority (filter (answers asked start end) spans)
  unfolding found rows_from
  found_sorted sorted fits same up =
      let rows : List SpanRow = found asked start end spans (range_with_len 0 (length spans)) in
      let whole : IsPermutation (in_order rows) sorted =
      IsPermutation-trans (in_order rows) rows sorted (IsPermutation-sym rows (in_order rows) (same_in_order rows))
      (IsPermutation-trans rows (found asked start end spans by_start) sorted found_same same) in
      ap spans_in (one_order rank_of (in_order rows) sorted
      (rises_in_order rows (attached_from spans (answered asked start end spans) 0 (length spans) (omega (arith, fits)))) whole (climbs_from rank_of sorted up))
      ∙ spans_in_order rows ∙ ap by_priority found_spans

pub found_over : (start end : ℕ) (pick : Pick) (spans : List Span) (by_start : List ℕ) → IsPermutation (range_with_len 0 (length spans)) by_start →
    (sorted : List SpanRow)
    → length spans ≤ 4294967296 → IsPermutation (found (Over pick) start end spans by_start) sorted → IsNonDecreasingBy rank_of sorted
    → spans_in sorted ≡ over start end pick spans
unfolding over
found_over start end pick spans by_start all sorted fits same up = found_sorted (Over pick) start end spans by_start all sorted fits same up

pub found_touching : (start end : ℕ) (spans : List Span) (by_start : List ℕ) → IsPermutation (range_with_len 0 (length spans)) by_start
    → IsPermutation (touching start end spans) (orders_of (found Touching start end spans by_start))
unfolding found
found_touching start end spans by_start all =
    subst (IsPermutation (touching start end spans))
    (sym (map_map (λ (row : SpanRow). row.order) (row_at spans) (filter (answered Touching start end spans) by_start) ∙ map-id
    (filter (answered Touching start end spans) by_start)))
    (IsPermutation-filter (answered Touching start end spans) (range_with_len 0 (length spans)) by_start all)
