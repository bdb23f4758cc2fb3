-- The next edge is that of the first number behind a place, in the order by start or in that by end.
use Rattle.std.proofs.Common.{◌≡◌, ℕ, ◌+◌, ◌-◌, ◌<◌, ◌≤◌, ◌&&◌, Bool, true, false, cond, ltb, List, [], ◌∷◌, zero, suc, Option, Some, None, slice_get, length, get_or, map, min, refl, sym, ap, ◌∙◌, subst, arith, inl, inr}
use Rattle.std.specs.List.{All, Contains, filter}
use Rattle.std.specs.List.Sorted.{IsNonDecreasingBy, IsPermutation}
use Rattle.std.proofs.lemmas.Bool.{cases_lt}
use Rattle.std.proofs.lemmas.Bool.Decides.{nat_tests}
use Rattle.std.proofs.lemmas.List.{ext_get_or, get_or_default, get_or-drop, get_or-map, get_or-take, length-drop, length-map, length-take}
use Rattle.std.proofs.lemmas.List.Elements.{All-head, All-map, All-tail}
use Rattle.std.proofs.lemmas.List.Sorted.{All-permutation, Contains-permutation, IsPermutation-map, IsPermutation-sym}
use Rattle.std.proofs.lemmas.Option.{get_or_from_slice_get, slice_get-get_or, slice_get_within}
use Rattle.std.specs.Option.{IfNone, IfSome}
use Rattle.edit_base.specs.declared.rows.SpanRow.{SpanRow}
use Rattle.edit_model.specs.Rows.{span_of}
use Rattle.edit_model.specs.State.{Span}
use Rattle.edit_model.specs.Over.{edges, least, next_edge}
use Rattle.span_order.specs.Ranked.{IsParted, rank_in, rank_of}
use Rattle.span_table.specs.Numbers.{IsNumber, ends_behind, place_of, starts_behind}
use Rattle.span_table.specs.Table.{Rows, kept_at, no_row, no_span, seen, span_at, spans_of}
use Rattle.interval_tree.specs.Orders.{IsOrder}
use Rattle.interval_tree.specs.Walk.{IsFirst, IsStop, ends_of, nearest, starts_of}
use Rattle.interval_tree.proofs.NumberOrder.{places_rise}
use Rattle.interval_tree.proofs.QueryPlaces.{AreSlots, seen_at}

-- ---- the least of starts and of ends

edge_step : (first second : Bool) (s e a b : ℕ) (starts ends edges : List ℕ) (limit : ℕ) → least limit starts ≡ a → least limit ends ≡ b
    → least limit edges ≡ min a b
    → least limit (cond first (s ∷ cond second (e ∷ edges) edges) (cond second (e ∷ edges) edges))
    ≡ min (least limit (cond first (s ∷ starts) starts)) (least limit (cond second (e ∷ ends) ends))
edge_step true true s e a b starts ends edges limit is_a is_b both = omega (arith, is_a, is_b, both)
edge_step true false s e a b starts ends edges limit is_a is_b both = omega (arith, is_a, is_b, both)
edge_step false true s e a b starts ends edges limit is_a is_b both = omega (arith, is_a, is_b, both)
edge_step false false s e a b starts ends edges limit is_a is_b both = omega (arith, is_a, is_b, both)

pub edges_least : (after limit : ℕ) (spans : List Span) → nearest after limit (edges spans) ≡ min (nearest after limit (starts_of spans)) (nearest after limit (ends_of spans))
edges_least after limit [] = omega arith
edges_least after limit (span ∷ spans) =
    edge_step (ltb after span.start && ltb span.start limit) (ltb after span.end && ltb span.end limit) span.start span.end _ _ _ _ _ limit refl refl
    (edges_least after limit spans)

pub edges_whole : (after limit : ℕ) (spans : List Span) → next_edge after limit spans ≡ min (nearest after limit (starts_of spans)) (nearest after limit (ends_of spans))
unfolding next_edge
edges_whole after limit spans = edges_least after limit spans

-- ---- the nearest of some places

pub record IsNearest (after limit : ℕ) (places : List ℕ) (place : ℕ) : Type 0 where
  pub below : place ≤ limit
  pub all : All (λ other. after < other → place ≤ other) places
  pub there : place < limit → Contains places place
  pub behind : place < limit → after < place

module _ (after limit : ℕ) where
  at_least : (places : List ℕ) (place : ℕ) → place ≤ limit → All (λ other. after < other → place ≤ other) places → place ≤ nearest after limit places
  at_least [] place below all = below
  at_least (other ∷ places) place below all =
      step (ltb after other && ltb other limit) refl (at_least places place below (All-tail (λ one. after < one → place ≤ one) other places all))
    where
      rest : ℕ
      rest = nearest after limit places

      step : (test : Bool) → (ltb after other && ltb other limit) ≡ test → place ≤ nearest after limit places
          → place ≤ least limit (cond test (other ∷ filter (λ edge. ltb after edge && ltb edge limit) places) (filter (λ edge. ltb after edge && ltb edge limit) places))
      step true is so_far =
          let behind : after < other = grind (arith, nat_tests) in
          let more = All-head (λ one. after < one → place ≤ one) other places all behind in
          omega (arith, so_far, more)
      step false is so_far = so_far

  never_over : (places : List ℕ) → nearest after limit places ≤ limit
  never_over places = under (filter (λ edge. ltb after edge && ltb edge limit) places)
    where
      under : (these : List ℕ) → least limit these ≤ limit
      under [] = omega arith
      under (one ∷ these) = omega (arith, under these)

  at_most : (places : List ℕ) (k : ℕ) → k < length places → after < get_or places k 0 → get_or places k 0 < limit → nearest after limit places ≤ get_or places k 0
  at_most [] k within behind below = absurd (omega (arith, within))
  at_most (other ∷ places) zero within behind below =
      let is : (ltb after other && ltb other limit) ≡ true = grind (arith, nat_tests) in
      rw is (omega arith)
  at_most (other ∷ places) (suc k) within behind below =
      step (ltb after other && ltb other limit) (at_most places k (omega (arith, within)) behind below)
    where
      step : (test : Bool) → nearest after limit places ≤ get_or places k 0
          → least limit (cond test (other ∷ filter (λ edge. ltb after edge && ltb edge limit) places) (filter (λ edge. ltb after edge && ltb edge limit) places)) ≤ get_or places k 0
      step true so_far = omega (arith, so_far)
      step false so_far = so_far

  pub nearest_is : (places : List ℕ) (place : ℕ) → IsNearest after limit places place → place ≡ nearest after limit places
  nearest_is places place is = elim (cases_lt place limit) [
    | inl less ↦ (let has = is.there less in
        let at = get_or_default places has.0 0 place has.1 ∙ has.2 in
        let behind = is.behind less in
        omega (arith, at_least places place is.below is.all, at, at_most places has.0 has.1 (omega (arith, at, behind)) (omega (arith, at, less)), at))
    | inr past ↦ omega (arith, past, is.below, at_least places place is.below is.all, never_over places)
  ]

  nearest_other : (places others : List ℕ) (place : ℕ) → IsPermutation places others → IsNearest after limit places place → IsNearest after limit others place
  nearest_other places others place same is = record {
    below = is.below;
    all = All-permutation (λ other. after < other → place ≤ other) places others same is.all;
    there = λ less. Contains-permutation places others place same (is.there less);
    behind = is.behind;
  }

-- ---- the first slot behind a number

pub record HasNumber (gap room number : ℕ) : Type 0 where
  pub points : Bool
  pub is : IsNumber gap room points number

module _ (gap room after stop limit : ℕ) (keys slots order : List ℕ) (is : IsOrder keys slots order) (above : IsStop gap room after stop)
    (numbers : All (λ slot. HasNumber gap room (get_or keys slot 0)) slots) where
  abbrev key : ℕ → ℕ
  key slot = get_or keys slot 0

  abbrev place : ℕ → ℕ
  place slot = place_of gap room (key slot)

  known : All (λ slot. HasNumber gap room (key slot)) order
  known = All-permutation (λ slot. HasNumber gap room (key slot)) slots order is.all numbers

  pub first_nearest : (slot : ℕ) → IsFirst keys order stop slot → min (place slot) limit ≡ nearest after limit (map place slots)
  first_nearest slot first =
      let k = first.there.0 in
      let here : HasNumber gap room (key slot) = subst (λ s. HasNumber gap room (key s)) first.there.2 (known k slot first.there.1) in
      let behind : after < place slot = above.above here.points (key slot) here.is first.behind in
      nearest_is after limit (map place slots) (min (place slot) limit)
      (nearest_other after limit (map place order) (map place slots) (min (place slot) limit)
      (IsPermutation-map place order slots (IsPermutation-sym slots order is.all))
      (record {
        below = omega arith;
        all = All-map (λ other. after < other → min (place slot) limit ≤ other) place order (λ j d within.
            λ more. after_all (get_or order j d) (known j d within) slot here (first.least j d within) more);
        there = λ less. (
          k,
          omega (arith, first.there.1, length-map order place),
          get_or-map place order k slot (min (place slot) limit) first.there.1 ∙ ap place first.there.2 ∙ shorter (place slot) limit less,
        );
        behind = λ less. omega (arith, behind, less);
      }))
    where
      shorter : (a b : ℕ) → min a b < b → a ≡ min a b
      shorter a b less = omega (arith, less)

      after_all : (other : ℕ) → HasNumber gap room (key other) → (slot : ℕ) → HasNumber gap room (key slot) → (stop < key other → key slot ≤ key other)
          → after < place other → min (place slot) limit ≤ place other
      after_all other there slot here least more = elim (cases_lt stop (key other)) [
        | inl past ↦ (let up = places_rise gap room here.points there.points (key slot) (key other) here.is there.is (least past) in omega (arith, up))
        | inr under ↦ absurd (omega (arith, more, above.below there.points (key other) there.is under))
      ]

  pub none_nearest : All (λ slot. key slot ≤ stop) order → limit ≡ nearest after limit (map place slots)
  none_nearest under =
      nearest_is after limit (map place slots) limit
      (nearest_other after limit (map place order) (map place slots) limit (IsPermutation-map place order slots (IsPermutation-sym slots order is.all))
      (record {
        below = omega arith;
        all = All-map (λ other. after < other → limit ≤ other) place order (λ j d within. λ more.
            let there = known j d within in
            absurd (omega (arith, more, above.below there.points (key (get_or order j d)) there.is (under j d within))));
        there = λ less. absurd (omega (arith, less));
        behind = λ less. absurd (omega (arith, less));
      }))

-- ---- places of spans

module _ (rows : Rows) (slots : AreSlots rows) where
  pub start_numbers : All (λ slot. HasNumber rows.gap rows.room (get_or rows.starts slot 0)) rows.slots
  start_numbers = λ k d within.
      let inside : k < length rows.kept = omega (arith, within, slots.placed) in
      record {
        points = starts_behind (kept_at rows.kept k).flags;
        is = subst (IsNumber rows.gap rows.room (starts_behind (kept_at rows.kept k).flags))
            (slots.starting k inside ∙ ap (λ slot. get_or rows.starts slot 0) (get_or_default rows.slots k 0 d within)) (slots.numbers k no_row inside).start;
      }

  pub end_numbers : All (λ slot. HasNumber rows.gap rows.room (get_or rows.ends slot 0)) rows.slots
  end_numbers = λ k d within.
      let inside : k < length rows.kept = omega (arith, within, slots.placed) in
      record {
        points = ends_behind (kept_at rows.kept k).flags;
        is = subst (IsNumber rows.gap rows.room (ends_behind (kept_at rows.kept k).flags))
            (slots.ending k inside ∙ ap (λ slot. get_or rows.ends slot 0) (get_or_default rows.slots k 0 d within)) (slots.numbers k no_row inside).end;
      }

  pub start_places : map (λ slot. place_of rows.gap rows.room (get_or rows.starts slot 0)) rows.slots ≡ starts_of (spans_of rows)
  start_places =
      let place : ℕ → ℕ = λ slot. place_of rows.gap rows.room (get_or rows.starts slot 0) in
      let long = length-map rows.slots place in
      let many = length-map rows.kept (seen rows.gap rows.room) in
      ext_get_or 0 (map place rows.slots) (starts_of (spans_of rows)) (long ∙ slots.placed ∙ sym (length-map (spans_of rows) (λ (span : Span). span.start) ∙ many)) (λ k below.
      let within : k < length rows.slots = omega (arith, below, long) in
      let inside : k < length rows.kept = omega (arith, within, slots.placed) in
      get_or-map place rows.slots k 0 0 within
      ∙ ap (place_of rows.gap rows.room) (sym (slots.starting k inside))
      ∙ ap (λ (span : Span). span.start) (sym (seen_at rows k inside))
      ∙ sym (get_or-map (λ (span : Span). span.start) (spans_of rows) k no_span 0 (omega (arith, inside, many))))

  pub end_places : map (λ slot. place_of rows.gap rows.room (get_or rows.ends slot 0)) rows.slots ≡ ends_of (spans_of rows)
  end_places =
      let place : ℕ → ℕ = λ slot. place_of rows.gap rows.room (get_or rows.ends slot 0) in
      let long = length-map rows.slots place in
      let many = length-map rows.kept (seen rows.gap rows.room) in
      ext_get_or 0 (map place rows.slots) (ends_of (spans_of rows)) (long ∙ slots.placed ∙ sym (length-map (spans_of rows) (λ (span : Span). span.end) ∙ many)) (λ k below.
      let within : k < length rows.slots = omega (arith, below, long) in
      let inside : k < length rows.kept = omega (arith, within, slots.placed) in
      get_or-map place rows.slots k 0 0 within
      ∙ ap (place_of rows.gap rows.room) (sym (slots.ending k inside))
      ∙ ap (λ (span : Span). span.end) (sym (seen_at rows k inside))
      ∙ sym (get_or-map (λ (span : Span). span.end) (spans_of rows) k no_span 0 (omega (arith, inside, many))))

-- ---- the first slot behind a place of the order

module _ (keys order : List ℕ) (number n : ℕ) (up : IsNonDecreasingBy (rank_in keys) order) (small : All (λ slot. slot < 4294967295) order)
    (parted : IsParted keys order (rank_of number 4294967295) n) where
  before_it : (k d : ℕ) → k < n → k < length order → get_or keys (get_or order k d) 0 ≤ number
  before_it k d less within =
      let below = parted.before k d (omega (arith, less, within, length-take n order)) in
      let at = get_or-take n order k d less in
      let ranked : rank_in keys (get_or order k d) < rank_of number 4294967295 = subst (λ slot. rank_in keys slot < rank_of number 4294967295) at below in
      omega (arith, ranked)

  behind_it : (k d : ℕ) → n ≤ k → k < length order → number < get_or keys (get_or order k d) 0
  behind_it k d more within =
      let above = parted.behind (k - n) d (omega (arith, more, within, length-drop n order)) in
      let same : n + (k - n) ≡ k = omega (arith, more) in
      let at = get_or-drop n order (k - n) d ∙ ap (λ i. get_or order i d) same in
      let ranked : rank_of number 4294967295 ≤ rank_in keys (get_or order k d) = subst (λ slot. rank_of number 4294967295 ≤ rank_in keys slot) at above in
      omega (arith, ranked, small k d within)

  pub first_some : (found : Option ℕ) → found ≡ slice_get order n → IfSome found (λ slot. IsFirst keys order number slot)
  first_some None is = tt
  first_some (Some slot) is =
      let within = slice_get_within order n slot (sym is) in
      let at = get_or_from_slice_get order n slot 0 (sym is) in
      record {
        there = (n, within, get_or_default order n slot 0 within ∙ at);
        behind = subst (λ s. number < get_or keys s 0) at (behind_it n 0 (omega arith) within);
        least = λ j d inside. λ more. elim (cases_lt j n) [
          | inl less ↦ absurd (omega (arith, before_it j d less inside, more))
          | inr past ↦ (let here = get_or_default order n d 0 within ∙ at in
              let ranked : rank_in keys slot ≤ rank_in keys (get_or order j d) =
              subst (λ s. rank_in keys s ≤ rank_in keys (get_or order j d)) here (up n j d past inside) in
              omega (arith, ranked, small j d inside))
        ];
      }

  pub first_none : (found : Option ℕ) → found ≡ slice_get order n → IfNone found (All (λ slot. get_or keys slot 0 ≤ number) order)
  first_none (Some slot) is = tt
  first_none None is = λ j d inside. elim (cases_lt j n) [
    | inl less ↦ before_it j d less inside
    | inr past ↦ (let no = is ∙ slice_get-get_or order n 0 (omega (arith, past, inside)) in absurd (let never = no in cc))
  ]

-- ---- what a row that is read by its slot starts and ends at

module _ (rows : Rows) (slots : AreSlots rows) (slot : ℕ) (row : SpanRow) (at : get_or rows.slots row.order 0 ≡ slot) (within : row.order < length rows.kept)
    (span : (i : ℕ) → i < length rows.kept → get_or rows.slots i 0 ≡ slot → span_of row ≡ span_at (spans_of rows) i) where
  pub read_start : row.start ≡ place_of rows.gap rows.room (get_or rows.starts slot 0)
  read_start =
      ap (λ (one : Span). one.start) (span row.order within at)
      ∙ ap (λ (one : Span). one.start) (seen_at rows row.order within)
      ∙ ap (place_of rows.gap rows.room) (slots.starting row.order within ∙ ap (λ s. get_or rows.starts s 0) at)

  pub read_end : row.end ≡ place_of rows.gap rows.room (get_or rows.ends slot 0)
  read_end =
      ap (λ (one : Span). one.end) (span row.order within at)
      ∙ ap (λ (one : Span). one.end) (seen_at rows row.order within)
      ∙ ap (place_of rows.gap rows.room) (slots.ending row.order within ∙ ap (λ s. get_or rows.ends s 0) at)
