-- Seats over a range, read one by one.
use Rattle.std.proofs.Common.{◌≡◌, ℕ, ◌+◌, ◌<◌, ◌≤◌, ◌&&◌, Bool, suc, true, false, cond, List, [], ◌∷◌, ◌++◌, length, get_or, take, map, refl, sym, ap, ◌∙◌, arith, Result, Ok, Err, IsOk}
use Rattle.std.specs.List.{All, filter, range_with_len}
use Rattle.std.specs.Result.{OnOk}
use Rattle.std.proofs.lemmas.List.{length-map, length-take-le, take_more}
use Rattle.edit_base.specs.declared.rows.Pick.TheVariants.{All as Every, Watches}
use Rattle.edit_base.specs.declared.rows.SpanRow.{SpanRow}
use Rattle.edit_model.specs.State.{Span}
use Rattle.edit_model.specs.Rows.{span_of}
use Rattle.edit_model.specs.Over.{is_watch, lies_over}
use Rattle.interval_tree.specs.declared.walk.Asked.{Asked}
use Rattle.interval_tree.specs.declared.walk.Asked.TheVariants.{Over}
use Rattle.row_kinds.specs.Kinds.{is_seat_row, slots_where}
use Rattle.row_kinds.proofs.KindSlots.{slots_all, slots_renamed}
use Rattle.slot_ranks.specs.Slots.{is_among}
use Rattle.span_table.specs.declared.kept.KeptRow.{KeptRow}
use Rattle.span_table.specs.Table.{Rows, kept_at, seen, span_at, spans_of}
use Rattle.interval_tree.specs.Walk.{answers, found, place_in, row_at}
use Rattle.interval_tree.proofs.Ranges.{all_range, range_long}
use Rattle.interval_tree.proofs.QueryPlaces.{AreSlots, all_among, filter_twice, places_all, seen_at}
use Rattle.interval_tree.proofs.QueryRows.{filter_short, found_append, found_short, map_cat, row_is}

module _ (start end : ℕ) (spans : List Span) (row : SpanRow) (i : ℕ) (span : span_of row ≡ span_at spans i) where
  pub seat_found : row.order ≡ i → lies_over start end (span_of row) ≡ true → row ∷ [] ≡ found (Over Every) start end spans (i ∷ [])
  unfolding found
  seat_found order lies =
      let is : (lies_over start end (span_at spans i) && true) ≡ true = ap (λ (one : Span). lies_over start end one && true) (sym span) ∙ ap
      (λ b. b && true) lies in
      rw is (ap (λ one. one ∷ []) (row_is spans row i span order))

  pub seat_passed : lies_over start end (span_of row) ≡ false → [] ≡ found (Over Every) start end spans (i ∷ [])
  unfolding found
  seat_passed lies =
      let is : (lies_over start end (span_at spans i) && true) ≡ false = ap (λ (one : Span). lies_over start end one && true) (sym span) ∙ ap
      (λ b. b && true) lies in
      rw is refl

pub found_more : (asked : Asked) (start end : ℕ) (spans : List Span) (place : ℕ → ℕ) (slots : List ℕ) (i : ℕ) → i < length slots
    → found asked start end spans (map place (take (i + 1) slots))
    ≡ found asked start end spans (map place (take i slots)) ++ found asked start end spans (place (get_or slots i 0) ∷ [])
found_more asked start end spans place slots i below =
    ap (λ xs. found asked start end spans (map place xs)) (take_more slots i 0 below)
    ∙ ap (found asked start end spans) (map_cat place (take i slots) (get_or slots i 0 ∷ []))
    ∙ found_append asked start end spans (map place (take i slots)) (place (get_or slots i 0) ∷ [])

-- ---- the seats are all the places that are watched

every_kind : (lies watch : Bool) → (lies && watch) ≡ ((lies && true) && watch)
every_kind true watch = refl
every_kind false watch = refl

-- the places of the rows that pass a test
where_range : (test : KeptRow → Bool) (xs all : List KeptRow) (a : ℕ) → ((k : ℕ) → k < length xs → kept_at all (a + k) ≡ kept_at xs k)
    → slots_where test xs (range_with_len a (length xs)) ≡ filter (λ i. test (kept_at all i)) (range_with_len a (length xs))
unfolding slots_where
where_range test [] all a each = refl
where_range test (x ∷ xs) all a each =
    let start : a + 0 ≡ a = omega arith in
    let same : kept_at all a ≡ x = ap (kept_at all) (sym start) ∙ each 0 (omega arith) in
    ap (λ rest. cond (test x) (a ∷ rest) rest) (where_range test xs all (a + 1)
    (λ k below. ap (kept_at all) (omega arith) ∙ each (suc k) (omega (arith, below))))
    ∙ ap (λ row. cond (test row) (a ∷ filter (λ i. test (kept_at all i)) (range_with_len (a + 1) (length xs)))
    (filter (λ i. test (kept_at all i)) (range_with_len (a + 1) (length xs)))) (sym same)

module _ (rows : Rows) (slots : AreSlots rows) where
  seat_places : map (place_in rows.slots) (slots_where is_seat_row rows.kept rows.slots)
      ≡ filter (λ i. is_watch (kept_at rows.kept i).what) (range_with_len 0 (length rows.kept))
  seat_places =
      sym (slots_renamed is_seat_row (place_in rows.slots) rows.kept rows.slots)
      ∙ ap (slots_where is_seat_row rows.kept) (places_all rows.slots slots.rising ∙ ap (range_with_len 0) slots.placed)
      ∙ where_range is_seat_row rows.kept rows.kept 0 (λ k below. ap (kept_at rows.kept) (omega arith))

  seats_found : (start end : ℕ)
      → found (Over Every) start end (spans_of rows) (filter (λ i. is_watch (kept_at rows.kept i).what) (range_with_len 0 (length rows.kept)))
      ≡ found (Over Watches) start end (spans_of rows) (range_with_len 0 (length rows.kept))
  unfolding found
  seats_found start end =
      ap (map (row_at (spans_of rows)))
      (filter_twice (λ i. is_watch (kept_at rows.kept i).what) (λ i. answers (Over Every) start end (span_at (spans_of rows) i))
      (λ i. answers (Over Watches) start end (span_at (spans_of rows) i))
      (range_with_len 0 (length rows.kept))
      (λ k d below.
      let i : ℕ = get_or (range_with_len 0 (length rows.kept)) k d in
      let same : is_watch (span_at (spans_of rows) i).what ≡ is_watch (kept_at rows.kept i).what =
      ap (λ (span : Span). is_watch span.what) (seen_at rows i (all_range (length rows.kept) k d below)) in
      ap (λ watch. lies_over start end (span_at (spans_of rows) i) && watch) same
      ∙ every_kind (lies_over start end (span_at (spans_of rows) i)) (is_watch (kept_at rows.kept i).what)))

  pub seats_watched : (start end : ℕ) (seats : List ℕ) → seats ≡ slots_where is_seat_row rows.kept rows.slots
      → found (Over Every) start end (spans_of rows) (map (place_in rows.slots) seats)
      ≡ found (Over Watches) start end (spans_of rows) (range_with_len 0 (length (spans_of rows)))
  seats_watched start end seats all =
      ap (λ these. found (Over Every) start end (spans_of rows) (map (place_in rows.slots) these)) all
      ∙ ap (found (Over Every) start end (spans_of rows)) seat_places ∙ seats_found start end
      ∙ ap (λ n. found (Over Watches) start end (spans_of rows) (range_with_len 0 n)) (sym (length-map rows.kept (seen rows.gap rows.room)))

  pub seats_few : length (slots_where is_seat_row rows.kept rows.slots) ≤ length rows.kept
  seats_few =
      omega (
        arith,
        length-map (slots_where is_seat_row rows.kept rows.slots) (place_in rows.slots),
        ap length seat_places,
        filter_short (λ i. is_watch (kept_at rows.kept i).what) (range_with_len 0 (length rows.kept)),
        range_long (length rows.kept),
      )

pub seats_live : (rows : Rows) → All (λ seat. is_among rows.slots seat ≡ true) (slots_where is_seat_row rows.kept rows.slots)
seats_live rows = slots_all is_seat_row (λ seat. is_among rows.slots seat ≡ true) rows.kept rows.slots (all_among rows.slots)

-- ---- a seat more

pub step_ok : {T E A B C : Type 0} (result so_far : Result T E) → OnOk result (IsOk so_far) → OnOk result A → OnOk so_far B → (A → B → C) → OnOk result C
step_ok (Ok done) (Ok before) was here there both = both here there
step_ok (Ok done) (Err failed) was here there both = absurd (let no = was in cc)
step_ok (Err failed) so_far was here there both = tt

pub at_ok : {T E A : Type 0} (so_far : Result T E) → OnOk so_far A → IsOk so_far → A
at_ok (Ok before) there ok = there
at_ok (Err failed) there ok = absurd (let no = ok in cc)

pub found_within : (asked : Asked) (start end : ℕ) (spans : List Span) (place : ℕ → ℕ) (slots : List ℕ) (i : ℕ) (rows : List SpanRow)
    → rows ≡ found asked start end spans (map place (take i slots)) → i < length slots → length rows ≤ i
found_within asked start end spans place slots i rows is below =
    omega (
      arith,
      ap length is,
      found_short asked start end spans (map place (take i slots)),
      length-map (take i slots) place,
      length-take-le i slots (omega (arith, below)),
    )
