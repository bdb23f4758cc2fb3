-- Spans set and removed in well formed states.
use Rattle.std.proofs.Common.{◌≡◌, ◌≢◌, ℕ, ◌<◌, ◌≤◌, ◌&&◌, Bool, true, false, not, cond, ltb, List, [], ◌∷◌, ◌++◌, map, length, refl, sym, ◌∙◌, arith}
use Rattle.std.specs.List.{AllByRecursion, list_any}
use Rattle.std.proofs.lemmas.Bool.{cond_both, or_parts, not-false, eqb-true, eqb-false, ltb-true, ne_eqb, not_from_false}
use Rattle.std.proofs.lemmas.List.{length-map, length_push}
use Rattle.std.proofs.lemmas.List.Filters.{length-filter_both}
use Rattle.edit_base.specs.declared.kinds.What.{What}
use Rattle.edit_base.specs.declared.kinds.What.TheVariants.{Tag, Face, Margin, Float, Watch, SelStart, SelEnd, Composing}
use Rattle.edit_base.specs.declared.bounds.TheConstants.Limits.{SPANS}
use Rattle.edit_model.specs.State.{Span, State}
use Rattle.edit_model.specs.Attached.{has_id, is_attached, with_span, without_span}
use Rattle.edit_model.specs.WellFormed.{IsSpanOver, HasDistinctIds, IsWellFormed, HasSlot, HasOtherSeat, HasDistinctSeats, IsSeated}
use Rattle.edit_model.specs.Verdicts.{watches, lacks_slot, span_count_after_set}
use Rattle.edit_model.proofs.SpanLists.{all-filter, all-push, all-map, all-both, all-weaker, all_each, all_fail, distinct-filter, distinct-map, distinct-push, attached-filter, attached-map, attached-push, seats-filter, seats-push, other_seat-sym}

-- ---- a span in the place of another

-- this span where the other has its id
in_place : Span → Span → Span
in_place span other = cond (has_id span.id other) span other

id-in_place : (span other : Span) → (in_place span other).id ≡ other.id
unfolding in_place
id-in_place span other = cond_both (has_id span.id other) span other (λ one. one.id ≡ other.id) (λ is. sym (eqb-true _ _ is)) (λ is. refl)

-- what holds of the span and of another holds of the one in place
all_in_place : (P : Span → Type 0) (test : Bool) (span other : Span) → P span → P other → P (cond test span other)
all_in_place P test span other here there = cond_both test span other P (λ is. here) (λ is. there)

-- what holds of a list with the span and of one behind it holds of the list with the span set
by_place : (P : List Span → Type 0) (span : Span) (spans : List Span)
    → (is_attached span.id spans ≡ true → P (map (in_place span) spans))
    → (is_attached span.id spans ≡ false → P (spans ++ span ∷ []))
    → P (with_span span spans)
unfolding in_place
by_place P span spans placed pushed =
    cond_both (is_attached span.id spans) (map (in_place span) spans) (spans ++ span ∷ []) P placed pushed

pub all-with_span : (P : Span → Type 0) (span : Span) (spans : List Span) → P span → AllByRecursion P spans → AllByRecursion P (with_span span spans)
unfolding in_place
all-with_span P span spans here each = by_place (AllByRecursion P) span spans
    (λ attached. all-map P P (in_place span) (λ other there. all_in_place P (has_id span.id other) span other here there) spans each)
    (λ absent. all-push P span spans here each)

pub distinct-with_span : (span : Span) (spans : List Span) → HasDistinctIds spans → HasDistinctIds (with_span span spans)
distinct-with_span span spans distinct = by_place HasDistinctIds span spans
    (λ attached. distinct-map (in_place span) (id-in_place span) spans distinct)
    (λ absent. distinct-push span spans absent distinct)

-- another id is attached as before
pub attached-with_span : (id : ℕ) (span : Span) (spans : List Span) → has_id id span ≡ false → is_attached id (with_span span spans) ≡ is_attached id spans
attached-with_span id span spans other = by_place (λ list. is_attached id list ≡ is_attached id spans) span spans
    (λ attached. attached-map (in_place span) (id-in_place span) id spans)
    (λ absent. attached-push id span spans other)

pub length-with_span : (units : List ℕ) (span : Span) (spans : List Span)
    → length (with_span span spans) ≡ span_count_after_set (record { units = units; spans = spans }) span.id
length-with_span units span spans = by_place (λ list. length list ≡ span_count_after_set (record { units = units; spans = spans }) span.id) span spans
    (λ attached. rw attached (length-map spans (in_place span)))
    (λ absent. rw absent (length_push spans span))

-- ---- seats

-- a span that doesn't watch for this slot
other_slot : (slot : ℕ) (other : What) → watches slot other ≡ false → HasOtherSeat (Watch slot) other
other_slot slot (Tag number) none = tt
other_slot slot (Face number) none = tt
other_slot slot (Margin first rest) none = tt
other_slot slot (Float margin lines) none = tt
other_slot slot (Watch at) none = λ same. eqb-false _ _ none (sym same)
other_slot slot SelStart none = tt
other_slot slot SelEnd none = tt
other_slot slot Composing none = tt

-- each other span has another seat than this one, or this id
abbrev pub SitsAlone : Span → List Span → Type 0
SitsAlone span spans = AllByRecursion (λ other. has_id span.id other ≡ false → HasOtherSeat span.what other.what) spans

all_free : (id : ℕ) (spans : List Span) → AllByRecursion (λ other. has_id id other ≡ false → Unit {0}) spans
all_free id spans = all_each (λ other. has_id id other ≡ false → Unit {0}) (λ other away. tt) spans

-- where no slot is lacking, the slot exists and nobody else sits on it
pub seated-lacks_none : (state : State) (slots id : ℕ) (what : What) → lacks_slot state slots id what ≡ false
    → HasSlot slots what × AllByRecursion (λ other. has_id id other ≡ false → HasOtherSeat what other.what) state.spans
seated-lacks_none state slots id (Watch slot) none =
    let parts = or_parts (not (ltb slot slots)) (list_any (λ span. not (has_id id span) && watches slot span.what) state.spans) none in (
      ltb-true _ _ (not-false _ parts.0),
      all-weaker (λ other. (not (has_id id other) && watches slot other.what) ≡ false) (λ other. has_id id other ≡ false → HasOtherSeat (Watch slot) other.what)
          (λ other is away. other_slot slot other.what (rw away at is)) state.spans
          (all_fail (λ span. not (has_id id span) && watches slot span.what) state.spans parts.1),
    )
seated-lacks_none state slots id (Tag number) none = (tt, all_free id state.spans)
seated-lacks_none state slots id (Face number) none = (tt, all_free id state.spans)
seated-lacks_none state slots id (Margin first rest) none = (tt, all_free id state.spans)
seated-lacks_none state slots id (Float margin lines) none = (tt, all_free id state.spans)
seated-lacks_none state slots id SelStart none = (tt, all_free id state.spans)
seated-lacks_none state slots id SelEnd none = (tt, all_free id state.spans)
seated-lacks_none state slots id Composing none = (tt, all_free id state.spans)

module _ (span : Span) where
  seats_at : (test : Bool) (first : Span) (spans : List Span) → has_id span.id first ≡ test → (test ≡ false → HasOtherSeat span.what first.what)
      → is_attached first.id spans ≡ false → AllByRecursion (λ other. HasOtherSeat first.what other.what) spans → SitsAlone span spans
      → AllByRecursion (λ other. HasOtherSeat (cond test span first).what other.what) (map (in_place span) spans)
  unfolding in_place
  seats_at true first spans is here unique apart alone =
      let same : first.id ≡ span.id = eqb-true _ _ is in
      let away = all_fail (has_id span.id) spans (rw same at unique) in
      all-map (λ other. (has_id span.id other ≡ false) × (has_id span.id other ≡ false → HasOtherSeat span.what other.what))
      (λ other. HasOtherSeat span.what other.what)
      (in_place span) (λ other both. rw both.0 (both.1 both.0)) spans
      (all-both (λ other. has_id span.id other ≡ false) (λ other. has_id span.id other ≡ false → HasOtherSeat span.what other.what) spans away alone)
  seats_at false first spans is here unique apart alone =
      all-map (λ other. HasOtherSeat first.what other.what) (λ other. HasOtherSeat first.what other.what) (in_place span)
      (λ other apart_here. all_in_place (λ one. HasOtherSeat first.what one.what) (has_id span.id other) span other
      (other_seat-sym span.what first.what (here refl)) apart_here) spans apart

  seats-in_place : (spans : List Span) → SitsAlone span spans → HasDistinctIds spans → HasDistinctSeats spans → HasDistinctSeats (map (in_place span) spans)
  unfolding in_place
  seats-in_place [] alone distinct apart = tt
  seats-in_place (first ∷ spans) alone distinct apart = (
    seats_at (has_id span.id first) first spans refl alone.0 distinct.0 apart.0 alone.1,
    seats-in_place spans alone.1 distinct.1 apart.1,
  )

  pub seats-with_span : (spans : List Span) → SitsAlone span spans → HasDistinctIds spans → HasDistinctSeats spans → HasDistinctSeats (with_span span spans)
  seats-with_span spans alone distinct apart = by_place HasDistinctSeats span spans
      (λ attached. seats-in_place spans alone distinct apart)
      (λ absent. seats-push span spans
      (all-weaker (λ other. (has_id span.id other ≡ false) × (has_id span.id other ≡ false → HasOtherSeat span.what other.what))
      (λ other. HasOtherSeat other.what span.what)
      (λ other both. other_seat-sym span.what other.what (both.1 both.0)) spans
      (all-both (λ other. has_id span.id other ≡ false) (λ other. has_id span.id other ≡ false → HasOtherSeat span.what other.what) spans
      (all_fail (has_id span.id) spans absent) alone)) apart)

-- ---- states

pub well_formed-with_span : (state : State) (slots : ℕ) (span : Span) → IsSpanOver state.units span → 2 < span.id
    → lacks_slot state slots span.id span.what ≡ false → span_count_after_set state span.id ≤ SPANS → IsWellFormed state
    → IsWellFormed (record { units = state.units; spans = with_span span state.spans })
well_formed-with_span state slots span over free seat few formed = record {
  spans = all-with_span (IsSpanOver state.units) span state.spans over formed.spans;
  distinct = distinct-with_span span state.spans formed.distinct;
  apart = seats-with_span span state.spans (seated-lacks_none state slots span.id span.what seat).1 formed.distinct formed.apart;
  few = rw (length-with_span state.units span state.spans) few;
  short = formed.short;
  selection = attached-with_span 0 span state.spans (ne_eqb span.id 0 (omega arith))
      ∙ formed.selection ∙ sym (attached-with_span 1 span state.spans (ne_eqb span.id 1 (omega arith)));
}

pub seated-with_span : (slots : ℕ) (state : State) (span : Span) → lacks_slot state slots span.id span.what ≡ false
    → IsSeated slots state.spans → IsSeated slots (with_span span state.spans)
seated-with_span slots state span seat seated =
    all-with_span (λ one. HasSlot slots one.what) span state.spans (seated-lacks_none state slots span.id span.what seat).0 seated

-- a span of another id is kept
away_kept : (id at : ℕ) (span : Span) → at ≢ id → has_id at span ≡ true → not (has_id id span) ≡ true
away_kept id at span other is = not_from_false (has_id id span) (ne_eqb span.id id (λ same. other (sym (eqb-true _ _ is) ∙ same)))

attached-without : (id at : ℕ) (spans : List Span) → at ≢ id → is_attached at (without_span id spans) ≡ is_attached at spans
attached-without id at spans other = attached-filter at (λ span. not (has_id id span)) spans
    (all_each (λ span. has_id at span ≡ true → not (has_id id span) ≡ true) (λ span is. away_kept id at span other is) spans)

pub well_formed-without_span : (state : State) (id : ℕ) → 2 < id → IsWellFormed state
    → IsWellFormed (record { units = state.units; spans = without_span id state.spans })
well_formed-without_span state id free formed =
    let keep = λ (span : Span). not (has_id id span) in
    record {
      spans = all-filter (IsSpanOver state.units) keep state.spans formed.spans;
      distinct = distinct-filter keep state.spans formed.distinct;
      apart = seats-filter keep state.spans formed.apart;
      few = omega (arith, formed.few, length-filter_both (has_id id) keep (λ span. refl) state.spans);
      short = formed.short;
      selection = attached-without id 0 state.spans (omega arith) ∙ formed.selection ∙ sym (attached-without id 1 state.spans (omega arith));
    }

pub seated-without_span : (slots id : ℕ) (spans : List Span) → IsSeated slots spans → IsSeated slots (without_span id spans)
seated-without_span slots id spans seated =
    all-filter (λ span. HasSlot slots span.what) (λ span. not (has_id id span)) spans seated
