-- An index that is filled with given rows, and one that has room for more.
use Rattle.std.proofs.Common.{◌≡◌, ℕ, ◌||◌, ◌≤◌, ◌<◌, ◌+◌, Bool, false, List, [], ◌∷◌, zero, suc, ◌-◌, map, min, length, take, get_or}
use Rattle.std.proofs.Common.{refl, subst, ap, arith}
use Rattle.std.specs.List.{AllByRecursion, IsDistinct, slice_index}
use Rattle.std.proofs.lemmas.List.{get_or-map, length-map}
use Rattle.edit_base.specs.declared.rows.SpanRow.{SpanRow}
use Rattle.edit_model.specs.Attached.{is_attached}
use Rattle.edit_model.specs.Rows.{spans_in}
use Rattle.edit_model.specs.State.{Span}
use Rattle.id_slots.specs.Named.{AreNamed, Names}
use Rattle.slot_lists.specs.Rising.{Rising}
use Rattle.span_order.specs.Blocks.{Row}
use Rattle.span_order.specs.Topped.{ToppedRow}
use Rattle.row_kinds.specs.Kinds.{IsTally}
use Rattle.span_table.specs.declared.kept.KeptRow.{KeptRow}
use Rattle.span_table.specs.Table.{Rows, kept_span, seen}
use Rattle.span_table.proofs.Lists.{anew_seen}
use Rattle.interval_tree.specs.Answers.{IsRising, orders_of}
use Rattle.interval_tree.specs.Ids.{ids_given, same_number}
use Rattle.interval_tree.specs.Orders.{AreOrders}
use Rattle.interval_tree.specs.Whole.{IsWhole}

-- ---- ids that differ

other_at : (id : ℕ) (rows : List SpanRow) (i : ℕ) (blank : SpanRow) → AllByRecursion (λ other. same_number id other ≡ false) (ids_given rows)
    → i < length rows → same_number id (get_or rows i blank).id ≡ false
other_at id [] i blank others within = absurd (omega (arith, within))
other_at id (row ∷ rows) zero blank others within = others.0
other_at id (row ∷ rows) (suc i) blank others within = other_at id rows i blank others.1 (omega (arith, within))

neither : (a b : Bool) → a ≡ false → b ≡ false → (a || b) ≡ false
neither a b first second = rw (first, second) refl

-- the id of the row at a place isn't among those before it
pub fresh_id : (rows : List SpanRow) (i : ℕ) (blank : SpanRow) → IsDistinct same_number (ids_given rows) → i < length rows
    → is_attached (get_or rows i blank).id (spans_in (take i rows)) ≡ false
unfolding IsDistinct
fresh_id [] i blank apart within = absurd (omega (arith, within))
fresh_id (row ∷ rows) zero blank apart within = refl
fresh_id (row ∷ rows) (suc i) blank apart within = neither _ _ (other_at row.id rows i blank apart.0 (omega (arith, within)))
    (fresh_id rows i blank apart.1 (omega (arith, within)))

-- ---- orders that rise

least : (numbers : List ℕ) (i : ℕ) → IsRising numbers → i < length numbers → i ≤ slice_index numbers i
least numbers zero rising within = omega arith
least numbers (suc i) rising within =
    omega (arith, least numbers i rising (omega (arith, within)), rising i (suc i) (omega arith) within)

-- the order of the row at a place is no less than the place
pub late_order : (rows : List SpanRow) (i n : ℕ) (blank : SpanRow) → n ≡ i → IsRising (orders_of rows) → i < length rows
    → n ≤ (get_or rows i blank).order
late_order rows i n blank here rising within = rw here (subst (λ order. i ≤ order) (get_or-map (λ row. row.order) rows i blank 0 within)
    (least (orders_of rows) i rising (simp length-map within)))

-- ---- room for more

pub whole_more : (old new : Rows) (names more : Names) (by_start : ToppedRow) (by_end : Row) (paragraphs : ℕ) (composing seats : Rising)
    → new.kept ≡ old.kept → new.slots ≡ old.slots → new.starts ≡ old.starts → new.ends ≡ old.ends
    → ((ids slots : List ℕ) → AreNamed ids slots names → AreNamed ids slots more)
    → IsWhole old names by_start by_end paragraphs composing seats → IsWhole new more by_start by_end paragraphs composing seats
whole_more old new names more by_start by_end paragraphs composing seats kept slots starts ends stay whole = record {
  orders = rw (starts, ends, slots) whole.orders;
  named = rw (kept, slots) (stay _ _ whole.named);
  distinct = rw kept whole.distinct;
  tally = rw (kept, slots) whole.tally;
  composing_places = rw kept whole.composing_places;
  seat_places = rw kept whole.seat_places;
}

-- ---- no rows, and those that come

-- spans that are kept are seen
pub filled_spans : (gap room new_gap new_room : ℕ) (kept : List KeptRow) (spans : List Span)
    → new_gap ≡ gap → new_room ≡ room → kept ≡ map (kept_span gap room) spans → map (seen new_gap new_room) kept ≡ spans
filled_spans gap room new_gap new_room kept spans same_gap same_room is = rw (same_gap, same_room, is) (anew_seen gap room spans)

-- an index without rows
pub whole_none : (rows : Rows) (names : Names) (by_start : ToppedRow) (by_end : Row) (paragraphs : ℕ) (composing seats : Rising)
    → rows.kept ≡ [] → rows.slots ≡ [] → ((starts ends : List ℕ) → AreOrders starts ends [] by_start by_end)
    → AreNamed [] [] names → IsTally [] [] paragraphs composing.slots seats.slots
    → IsWhole rows names by_start by_end paragraphs composing seats
unfolding IsDistinct
whole_none rows names by_start by_end paragraphs composing seats kept slots orders named tally = record {
  orders = rw slots (orders rows.starts rows.ends);
  named = rw (kept, slots) named;
  distinct = rw kept tt;
  tally = rw (kept, slots) tally;
  composing_places = omega (arith, ap length kept);
  seat_places = omega (arith, ap length kept);
}

-- ---- the least of six numbers

record NoMore (n a b c d e f : ℕ) : Type 0 where
  first : n ≤ a
  second : n ≤ b
  third : n ≤ c
  fourth : n ≤ d
  fifth : n ≤ e
  sixth : n ≤ f

no_more : (n a b c d e f : ℕ) → n ≡ min a (min b (min c (min d (min e f)))) → NoMore n a b c d e f
no_more n a b c d e f is = record {
  first = omega (arith, is);
  second = omega (arith, is);
  third = omega (arith, is);
  fourth = omega (arith, is);
  fifth = omega (arith, is);
  sixth = omega (arith, is);
}

under_two : (n a b : ℕ) → n ≤ a → n ≤ b → n ≤ min a b
under_two n a b first second = omega (arith, first, second)

-- when so many rows go, and no list has fewer places, all of their places are spare
pub spare_cleared : (long spare a b c d e f new_long new_a new_b new_c new_d new_e new_f : ℕ)
    → spare ≡ min a (min b (min c (min d (min (e - long) (f - long))))) → long ≤ e → long ≤ f → new_long ≡ 0
    → long + a ≤ new_a → long + b ≤ new_b → long + c ≤ new_c → long + d ≤ new_d → e ≤ new_e → f ≤ new_f
    → long + spare ≤ min new_a (min new_b (min new_c (min new_d (min (new_e - new_long) (new_f - new_long)))))
spare_cleared long spare a b c d e f new_long new_a new_b new_c new_d new_e new_f is e_places f_places none a_more b_more c_more d_more e_more f_more =
    let parts = no_more spare a b c d (e - long) (f - long) is in
    under_two _ _ _ (omega (arith, parts.first, a_more))
    (under_two _ _ _ (omega (arith, parts.second, b_more))
    (under_two _ _ _ (omega (arith, parts.third, c_more))
    (under_two _ _ _ (omega (arith, parts.fourth, d_more))
    (under_two _ _ _ (omega (arith, parts.fifth, e_more, e_places, none)) (omega (arith, parts.sixth, f_more, f_places, none))))))
