-- Slots in an order by start stand for places of rows, and those that a query looks for are those of the rows that touch its
-- range.
use Rattle.std.proofs.Common.{◌≡◌, ℕ, ◌+◌, ◌-◌, ◌*◌, ◌^◌, ◌<◌, ◌≤◌, ◌&&◌, Bool, true, false, cond, ltb, leb, eqb, List, [], ◌∷◌, ◌++◌, zero, suc, length, length-append, get_or, drop, map, refl, sym, ap, append_assoc, ◌∙◌, subst, arith, eq-eqb, inl, inr}
use Rattle.std.specs.List.{All, concat, filter, range_with_len}
use Rattle.std.specs.List.Sorted.{IsPermutation, IsStrictlyIncreasing}
use Rattle.std.proofs.Math.Nat.{mul-le-mul_right}
use Rattle.std.proofs.lemmas.Bool.{cases_Bool, cases_lt}
use Rattle.std.proofs.lemmas.Bool.Decides.{nat_tests}
use Rattle.std.proofs.lemmas.List.{ext_get_or, get_or_default, get_or-map, length-map}
use Rattle.std.proofs.lemmas.List.Elements.{All-drop, All-filter, All-head, All-tail}
use Rattle.std.proofs.lemmas.List.FromFn.{get_or-range_with_len, length-range_with_len}
use Rattle.std.proofs.lemmas.List.Sorted.{All-permutation, IsPermutation-map}
use Rattle.edit_model.specs.State.{Span}
use Rattle.edit_model.specs.Over.{is_picked, touches}
use Rattle.row_kinds.specs.Kinds.{Climbs}
use Rattle.row_kinds.proofs.KindSlots.{climbs_from}
use Rattle.slot_ranks.specs.Slots.{is_among}
use Rattle.span_order.specs.Hits.{is_hit}
use Rattle.span_table.specs.Numbers.{IsNumber, place_of}
use Rattle.span_table.specs.Table.{AreNumbers, Rows, kept_at, no_row, no_span, seen, span_at, spans_of}
use Rattle.interval_tree.specs.Answers.{IsWithin, near_count}
use Rattle.interval_tree.specs.Orders.{IsOrder}
use Rattle.interval_tree.specs.Walk.{IsBound, IsStop, answers, found, place_in, row_at}
use Rattle.interval_tree.specs.declared.walk.Asked.{Asked}
use Rattle.interval_tree.specs.declared.walk.Asked.TheVariants.{Over, Touching}
use Rattle.interval_tree.proofs.QueryLists.{filter-map, filter_length, read_all}
use Rattle.interval_tree.proofs.Ranges.{all_range, long_places}
use Rattle.interval_tree.proofs.QueryRows.{filter_short, found_append, found_short}
use Rattle.edit_base.specs.declared.rows.SpanRow.{SpanRow}
use Rattle.edit_model.specs.Rows.{span_of}
use Rattle.span_order.specs.Blocks.{number_of}
use Rattle.span_order.specs.declared.places.Place.{Place}

-- ---- places of slots

none_below : (slot : ℕ) (slots : List ℕ) → All (λ other. slot < other) slots → filter (λ other. ltb other slot) slots ≡ []
none_below slot [] above = refl
none_below slot (other ∷ slots) above =
    let more : slot < other = All-head (λ one. slot < one) other slots above in
    let is : ltb other slot ≡ false = grind (arith, nat_tests) in
    rw is (none_below slot slots (All-tail (λ one. slot < one) other slots above))

place_climbs : (slots : List ℕ) (i : ℕ) → Climbs slots → i < length slots → place_in slots (get_or slots i 0) ≡ i
place_climbs [] i up within = absurd (omega (arith, within))
place_climbs (slot ∷ slots) zero up within =
    let is : ltb slot slot ≡ false = grind (arith, nat_tests) in
    rw is (ap length (none_below slot slots up.0))
place_climbs (slot ∷ slots) (suc i) up within =
    let inside : i < length slots = omega (arith, within) in
    let less : slot < get_or slots i 0 = up.0 i 0 inside in
    let is : ltb slot (get_or slots i 0) ≡ true = grind (arith, nat_tests) in
    rw is (ap suc (place_climbs slots i up.1 inside))

-- the slot at a place has that place
pub place_at : (slots : List ℕ) (i : ℕ) → IsStrictlyIncreasing slots → i < length slots → place_in slots (get_or slots i 0) ≡ i
place_at slots i up within = place_climbs slots i (climbs_from slots up) within

pub places_all : (slots : List ℕ) → IsStrictlyIncreasing slots → map (place_in slots) slots ≡ range_with_len 0 (length slots)
places_all slots up =
    let n = length slots in
    let long = length-map slots (place_in slots) in
    ext_get_or 0 (map (place_in slots) slots) (range_with_len 0 n) (long ∙ sym (length-range_with_len 0 n)) (λ k below.
    let within : k < n = omega (arith, below, long) in
    let start : 0 + k ≡ k = omega arith in
    get_or-map (place_in slots) slots k 0 0 within ∙ place_at slots k up within ∙ sym (get_or-range_with_len 0 n k 0 within ∙ start))

-- the places of slots in another order are all places
pub order_places : (keys slots order : List ℕ) (n : ℕ) → IsStrictlyIncreasing slots → length slots ≡ n → IsOrder keys slots order
    → IsPermutation (range_with_len 0 n) (map (place_in slots) order)
order_places keys slots order n up long is =
    subst (λ xs. IsPermutation xs (map (place_in slots) order)) (places_all slots up ∙ ap (range_with_len 0) long)
    (IsPermutation-map (place_in slots) slots order is.all)

-- ---- slots of rows

pub among_has : (xs : List ℕ) (k i : ℕ) → i < length xs → get_or xs i 0 ≡ k → is_among xs k ≡ true
among_has [] k i within is = absurd (omega (arith, within))
among_has (x ∷ xs) k zero within is = let this = eq-eqb x k is in rw this refl
among_has (x ∷ xs) k (suc i) within is =
    let rest = among_has xs k i (omega (arith, within)) is in
    elim (cases_Bool (eqb x k)) [
      | inl here ↦ rw here refl
      | inr other ↦ rw (other, rest) refl
    ]

pub all_among : (slots : List ℕ) → All (λ slot. is_among slots slot ≡ true) slots
all_among slots = λ k d below. among_has slots (get_or slots k d) k below (get_or_default slots k 0 d below)

-- a slot that is found in an order is one of a row
pub hit_among : (keys slots order rest : List ℕ) (test : ℕ → Bool) (n slot : ℕ) → IsOrder keys slots order → filter test (drop n order) ≡ slot ∷ rest
    → is_among slots slot ≡ true
hit_among keys slots order rest test n slot is found_in =
    All-head (λ s. is_among slots s ≡ true) slot rest (subst (All (λ s. is_among slots s ≡ true)) found_in
    (All-filter test (λ s. is_among slots s ≡ true) (drop n order) (All-drop (λ s. is_among slots s ≡ true) n order
    (All-permutation (λ s. is_among slots s ≡ true) slots order is.all (all_among slots)))))

-- ---- lists that are filtered

filter_same : {X : Type 0} (first second : X → Bool) (xs : List X) → All (λ x. first x ≡ second x) xs → filter first xs ≡ filter second xs
filter_same first second [] each = refl
filter_same first second (x ∷ xs) each =
    ap (λ passes. cond passes (x ∷ filter first xs) (filter first xs)) (All-head (λ y. first y ≡ second y) x xs each)
    ∙ ap (λ rest. cond (second x) (x ∷ rest) rest) (filter_same first second xs (All-tail (λ y. first y ≡ second y) x xs each))

filter_step : {X : Type 0} (second : X → Bool) (a b : Bool) (x : X) (xs : List X) → second x ≡ b
    → filter second (cond a (x ∷ xs) xs) ≡ cond (b && a) (x ∷ filter second xs) (filter second xs)
filter_step second true true x xs is = rw is refl
filter_step second true false x xs is = rw is refl
filter_step second false true x xs is = refl
filter_step second false false x xs is = refl

pub filter_twice : {X : Type 0} (first second both : X → Bool) (xs : List X) → All (λ x. both x ≡ (second x && first x)) xs
    → filter second (filter first xs) ≡ filter both xs
filter_twice first second both [] each = refl
filter_twice first second both (x ∷ xs) each =
    filter_step second (first x) (second x) x (filter first xs) refl
    ∙ ap (λ rest. cond (second x && first x) (x ∷ rest) rest) (filter_twice first second both xs (All-tail (λ y. both y ≡ (second y && first y)) x xs each))
    ∙ ap (λ passes. cond passes (x ∷ filter both xs) (filter both xs)) (sym (All-head (λ y. both y ≡ (second y && first y)) x xs each))

-- ---- the slots that a query looks for

over_near : (touching rest picked : Bool) → ((touching && rest) && picked) ≡ (((touching && rest) && picked) && touching)
over_near true true true = refl
over_near true true false = refl
over_near true false picked = refl
over_near false rest picked = refl

once_more : (touching : Bool) → touching ≡ (touching && touching)
once_more true = refl
once_more false = refl

-- what answers touches the range
answers_near : (asked : Asked) (start end : ℕ) (span : Span) (hit : Bool) → hit ≡ touches start end span
    → answers asked start end span ≡ (answers asked start end span && hit)
answers_near (Over pick) start end span hit is =
    over_near (touches start end span) _ (is_picked pick span.what) ∙ ap (λ near. answers (Over pick) start end span && near) (sym is)
answers_near Touching start end span hit is = once_more (touches start end span) ∙ ap (λ near. touches start end span && near) (sym is)

both_same : (a b c d : Bool) → a ≡ c → b ≡ d → (a && b) ≡ (d && c)
both_same true true true true first second = refl
both_same true false true false first second = refl
both_same false true false true first second = refl
both_same false false false false first second = refl
both_same true b false d first second = absurd (let no = first in cc)
both_same false b true d first second = absurd (let no = first in cc)
both_same a true c false first second = absurd (let no = second in cc)
both_same a false c true first second = absurd (let no = second in cc)

module _ (gap room : ℕ) (points : Bool) (number : ℕ) (is : IsNumber gap room points number) where
  bounds : (start bound : ℕ) → IsBound gap room start bound → leb bound number ≡ leb start (place_of gap room number)
  bounds start bound limit = elim (cases_lt number bound) [
    | inl less ↦ (let low = limit.below points number is less in grind (arith, nat_tests))
    | inr more ↦ (let high = limit.above points number is more in grind (arith, nat_tests))
  ]

  stops : (end stop : ℕ) → IsStop gap room end stop → leb number stop ≡ leb (place_of gap room number) end
  stops end stop limit = elim (cases_lt stop number) [
    | inl more ↦ (let high = limit.above points number is more in grind (arith, nat_tests))
    | inr less ↦ (let low = limit.below points number is less in grind (arith, nat_tests))
  ]

-- ---- the steps of a query

few_steps : (h n s k : ℕ) → s ≤ n → s ≤ 4 * (k + 1) → 2 * n + 1 < 2 ^ (h + 1) → s ≤ (k + 1) * (h + 1)
few_steps zero n s k each few below = omega (arith, each, below)
few_steps (suc zero) n s k each few below = omega (arith, each, below)
few_steps (suc (suc zero)) n s k each few below = omega (arith, each, below)
few_steps (suc (suc (suc h))) n s k each few below = let more : 0 * k ≤ h * k = mul-le-mul_right k (omega arith) in omega (arith, few, more)

pub query_within : (start end : ℕ) (spans : List Span) (old new k n : ℕ) → k ≤ near_count start end spans → n ≤ length spans
    → new ≤ old + n → new ≤ old + 4 * (k + 1) → IsWithin start end spans (new - old)
query_within start end spans old new k n near long each few = record {
  each = omega (arith, each, long);
  high = λ h below. few_steps h (length spans) (new - old) (near_count start end spans) (omega (arith, each, long)) (omega (arith, few, near)) below;
}

-- ---- the slots of rows

-- what is known of the slots of rows
pub record AreSlots (rows : Rows) : Type 0 where
  pub numbers : All (AreNumbers rows.gap rows.room) rows.kept
  pub rising : IsStrictlyIncreasing rows.slots
  pub placed : length rows.slots ≡ length rows.kept
  pub starting : (i : ℕ) → i < length rows.kept → (kept_at rows.kept i).start ≡ get_or rows.starts (get_or rows.slots i 0) 0
  pub ending : (i : ℕ) → i < length rows.kept → (kept_at rows.kept i).end ≡ get_or rows.ends (get_or rows.slots i 0) 0

pub seen_at : (rows : Rows) (i : ℕ) → i < length rows.kept → span_at (spans_of rows) i ≡ seen rows.gap rows.room (kept_at rows.kept i)
seen_at rows i below = get_or-map (seen rows.gap rows.room) rows.kept i no_row no_span below

module _ (rows : Rows) (slots : AreSlots rows) (order : List ℕ) (is : IsOrder rows.starts rows.slots order) where
  abbrev places : List ℕ
  places = map (place_in rows.slots) order

  pub places_are : IsPermutation (range_with_len 0 (length (spans_of rows))) places
  places_are = order_places rows.starts rows.slots order (length (spans_of rows)) slots.rising
      (slots.placed ∙ sym (length-map rows.kept (seen rows.gap rows.room))) is

  module _ (start end bound stop : ℕ) (below : IsBound rows.gap rows.room start bound) (above : IsStop rows.gap rows.room end stop) where
    abbrev hit : ℕ → Bool
    hit = is_hit rows.starts rows.ends bound stop

    abbrev near : ℕ → Bool
    near slot = touches start end (span_at (spans_of rows) (place_in rows.slots slot))

    hit_at : (i : ℕ) → i < length rows.slots → hit (get_or rows.slots i 0) ≡ near (get_or rows.slots i 0)
    hit_at i within =
        let inside : i < length rows.kept = omega (arith, within, slots.placed) in
        let at = place_at rows.slots i slots.rising within in
        let number = slots.numbers i no_row inside in
        let span = ap (span_at (spans_of rows)) at ∙ seen_at rows i inside in
        both_same _ _ _ _
        (ap (leb bound) (sym (slots.ending i inside)) ∙ bounds rows.gap rows.room _ _ number.end start bound below)
        (ap (λ n. leb n stop) (sym (slots.starting i inside)) ∙ stops rows.gap rows.room _ _ number.start end stop above)
        ∙ ap (touches start end) (sym span)

    hits_are : All (λ slot. hit slot ≡ near slot) order
    hits_are = All-permutation (λ slot. hit slot ≡ near slot) rows.slots order is.all (λ k d within.
        subst (λ slot. hit slot ≡ near slot) (get_or_default rows.slots k 0 d within) (hit_at k within))

    hits_near : filter hit order ≡ filter near order
    hits_near = filter_same hit near order hits_are

    -- there are as many of them as spans that touch the range
    pub hit_count : length (filter hit order) ≡ near_count start end (spans_of rows)
    hit_count =
        let spans = spans_of rows in
        let place = place_in rows.slots in
        let test : ℕ → Bool = λ i. touches start end (span_at spans i) in
        ap length hits_near
        ∙ sym (length-map (filter near order) place)
        ∙ ap length (sym (filter-map test place order))
        ∙ filter_length test (range_with_len 0 (length spans)) places places_are
        ∙ sym (length-map (filter test (range_with_len 0 (length spans))) (span_at spans))
        ∙ ap length (sym (filter-map (touches start end) (span_at spans) (range_with_len 0 (length spans))))
        ∙ ap (λ (these : List Span). length (filter (touches start end) these)) (read_all spans no_span)

    -- what answers among them is all that answers
    pub found_hits : (asked : Asked) → found asked start end (spans_of rows) (map (place_in rows.slots) (filter hit order))
        ≡ found asked start end (spans_of rows) places
    unfolding found
    found_hits asked =
        let spans = spans_of rows in
        let place = place_in rows.slots in
        let test : ℕ → Bool = λ i. answers asked start end (span_at spans i) in
        ap (map (row_at spans))
        (filter-map test place (filter hit order)
        ∙ ap (map place) (filter_twice hit (λ slot. test (place slot)) (λ slot. test (place slot)) order
        (λ k d within. answers_near asked start end (span_at spans (place (get_or order k d))) (hit (get_or order k d)) (hits_are k d within)))
        ∙ sym (filter-map test place order))

    order_long : length order ≡ length (spans_of rows)
    order_long = sym (length-map order (place_in rows.slots)) ∙ long_places (length (spans_of rows)) places places_are

    pub hits_few : length (filter hit order) ≤ length rows.kept
    hits_few = omega (arith, filter_short hit order, order_long, length-map rows.kept (seen rows.gap rows.room))

    pub hits_within : (old new : ℕ) → new ≤ old + length order → new ≤ old + 4 * (length (filter hit order) + 1) → IsWithin start end (spans_of rows) (new - old)
    hits_within old new each few =
        query_within start end (spans_of rows) old new (length (filter hit order)) (length order) (omega (arith, hit_count)) (omega (arith, order_long)) each few

-- ---- a row that is read by its slot

module _ (rows : Rows) (up : IsStrictlyIncreasing rows.slots) (long : length rows.slots ≡ length rows.kept) (slot : ℕ) (row : SpanRow)
    (at : get_or rows.slots row.order 0 ≡ slot) (within : row.order < length rows.kept) where
  pub read_place : row.order ≡ place_in rows.slots slot
  read_place = sym (ap (place_in rows.slots) (sym at) ∙ place_at rows.slots row.order up (omega (arith, within, long)))

  pub read_span : ((i : ℕ) → i < length rows.kept → get_or rows.slots i 0 ≡ slot → span_of row ≡ span_at (spans_of rows) i)
      → span_of row ≡ span_at (spans_of rows) (place_in rows.slots slot)
  read_span each = subst (λ i. span_of row ≡ span_at (spans_of rows) i) read_place (each row.order within at)

-- ---- a slot more

-- what holds of two lists holds of equal ones
pub at_both : (P : List ℕ → List ℕ → Type 0) (s t e f : List ℕ) → s ≡ t → e ≡ f → P s e → P t f
at_both P s t e f first second is = subst (λ x. P x f) first (subst (P s) second is)

-- the slots that are looked for, from a place on
abbrev pub left_from : List ℕ → List ℕ → ℕ → ℕ → List (List ℕ) → Place → List ℕ
left_from starts ends bound stop blocks at = filter (is_hit starts ends bound stop) (drop (number_of blocks at) (concat blocks))

pub found_next : (asked : Asked) (start end : ℕ) (spans : List Span) (place : ℕ → ℕ) (slot : ℕ) (old new : List ℕ) (before after : List SpanRow)
    → old ≡ slot ∷ new → after ≡ before ++ found asked start end spans (place slot ∷ [])
    → after ++ found asked start end spans (map place new) ≡ before ++ found asked start end spans (map place old)
found_next asked start end spans place slot old new before after next more =
    ap (λ rows. rows ++ found asked start end spans (map place new)) more
    ∙ append_assoc before (found asked start end spans (place slot ∷ [])) (found asked start end spans (map place new))
    ∙ ap (λ rows. before ++ rows) (sym (found_append asked start end spans (place slot ∷ []) (map place new)))
    ∙ ap (λ these. before ++ found asked start end spans (map place these)) (sym next)

pub one_longer : (asked : Asked) (start end : ℕ) (spans : List Span) (place : ℕ) (before after : List SpanRow)
    → after ≡ before ++ found asked start end spans (place ∷ []) → length after ≤ length before + 1
one_longer asked start end spans place before after more =
    omega (arith, ap length more, length-append before (found asked start end spans (place ∷ [])), found_short asked start end spans (place ∷ []))

-- each place is one of a row
pub places_within : (n : ℕ) (places : List ℕ) → IsPermutation (range_with_len 0 n) places → All (λ i. i < n) places
places_within n places all = All-permutation (λ i. i < n) (range_with_len 0 n) places all (all_range n)
