-- There are no more watchers than slots.
use Rattle.std.proofs.Common.{◌≡◌, ℕ, ◌<◌, ◌≤◌, ◌||◌, Bool, true, false, cond, eqb, List, [], ◌∷◌, map, length, refl, sym, subst}
use Rattle.std.specs.List.{AllByRecursion, filter, list_any, IsDistinct}
use Rattle.std.proofs.lemmas.Bool.{eqb-true, ne_eqb}
use Rattle.std.proofs.lemmas.List.{length-map}
use Rattle.std.proofs.lemmas.Map.Steps.{length-le_from_distinct_below}
use Rattle.edit_base.specs.declared.kinds.What.{What}
use Rattle.edit_base.specs.declared.kinds.What.TheVariants.{Tag, Face, Margin, Float, Watch, SelStart, SelEnd, Composing}
use Rattle.edit_model.specs.State.{Span, State}
use Rattle.edit_model.specs.Over.{is_watch}
use Rattle.edit_model.specs.Events.{slot_of}
use Rattle.edit_model.specs.WellFormed.{HasSlot, HasOtherSeat, HasDistinctSeats, IsWellFormed, IsSeated}
use Rattle.edit_model.proofs.SpanLists.{all-filter_passes, all-map}

abbrev sits : Span → Bool
sits span = is_watch span.what

abbrev span_slot : Span → ℕ
span_slot span = slot_of span.what

-- two watchers have two slots
other_slot : (what other : What) → is_watch what ≡ true → is_watch other ≡ true → HasOtherSeat what other → eqb (slot_of what) (slot_of other) ≡ false
other_slot (Watch slot) (Watch other) here there apart = ne_eqb slot other apart
other_slot (Watch slot) (Tag number) here there apart = absurd (cc)
other_slot (Watch slot) (Face number) here there apart = absurd (cc)
other_slot (Watch slot) (Margin first rest) here there apart = absurd (cc)
other_slot (Watch slot) (Float margin lines) here there apart = absurd (cc)
other_slot (Watch slot) SelStart here there apart = absurd (cc)
other_slot (Watch slot) SelEnd here there apart = absurd (cc)
other_slot (Watch slot) Composing here there apart = absurd (cc)
other_slot (Tag number) other here there apart = absurd (cc)
other_slot (Face number) other here there apart = absurd (cc)
other_slot (Margin first rest) other here there apart = absurd (cc)
other_slot (Float margin lines) other here there apart = absurd (cc)
other_slot SelStart other here there apart = absurd (cc)
other_slot SelEnd other here there apart = absurd (cc)
other_slot Composing other here there apart = absurd (cc)

own_slot : (slots : ℕ) (what : What) → HasSlot slots what → is_watch what ≡ true → slot_of what < slots
own_slot slots (Watch slot) has here = has
own_slot slots (Tag number) has here = absurd (cc)
own_slot slots (Face number) has here = absurd (cc)
own_slot slots (Margin first rest) has here = absurd (cc)
own_slot slots (Float margin lines) has here = absurd (cc)
own_slot slots SelStart has here = absurd (cc)
own_slot slots SelEnd has here = absurd (cc)
own_slot slots Composing has here = absurd (cc)

one_more : (test : Bool) (span : Span) (spans : List Span) → sits span ≡ test → AllByRecursion (λ other. HasOtherSeat span.what other.what) spans
    → IsDistinct eqb (map span_slot (filter sits spans)) → IsDistinct eqb (map span_slot (cond test (span ∷ filter sits spans) (filter sits spans)))
unfolding IsDistinct
one_more true span spans is apart rest = (
  all-map (λ other. HasOtherSeat span.what other.what × (sits other ≡ true)) (λ slot. eqb (span_slot span) slot ≡ false) span_slot
      (λ other both. other_slot span.what other.what is both.1 both.0) (filter sits spans)
      (all-filter_passes (λ other. HasOtherSeat span.what other.what) sits spans apart),
  rest,
)
one_more false span spans is apart rest = rest

distinct-slots : (spans : List Span) → HasDistinctSeats spans → IsDistinct eqb (map span_slot (filter sits spans))
unfolding IsDistinct
distinct-slots [] apart = tt
distinct-slots (span ∷ spans) apart = one_more (sits span) span spans refl apart.0 (distinct-slots spans apart.1)

below-slots : (slots : ℕ) (spans : List Span) → IsSeated slots spans → AllByRecursion (λ slot. slot < slots) (map span_slot (filter sits spans))
below-slots slots spans seated =
    all-map (λ span. HasSlot slots span.what × (sits span ≡ true)) (λ slot. slot < slots) span_slot
    (λ span both. own_slot slots span.what both.0 both.1) (filter sits spans) (all-filter_passes (λ span. HasSlot slots span.what) sits spans seated)

first_below : (slots q slot : ℕ) (test rest : Bool) → slot < slots → eqb q slot ≡ test → (rest ≡ true → q < slots) → (test || rest) ≡ true → q < slots
first_below slots q slot true rest here is there any = subst (λ n. n < slots) (sym (eqb-true q slot is)) here
first_below slots q slot false rest here is there any = there any

found_below : (slots q : ℕ) (found : List ℕ) → AllByRecursion (λ slot. slot < slots) found → list_any (eqb q) found ≡ true → q < slots
found_below slots q [] each any = absurd (cc)
found_below slots q (slot ∷ found) each any =
    first_below slots q slot (eqb q slot) (list_any (eqb q) found) each.0 refl (found_below slots q found each.1) any

pub few-watchers : (state : State) (slots : ℕ) → IsWellFormed state → IsSeated slots state.spans
    → length (filter (λ span. is_watch span.what) state.spans) ≤ slots
few-watchers state slots formed seated =
    let few = length-le_from_distinct_below (map span_slot (filter sits state.spans)) slots (distinct-slots state.spans formed.apart)
    (λ q any. found_below slots q (map span_slot (filter sits state.spans)) (below-slots slots state.spans seated) any) in
    subst (λ n. n ≤ slots) (length-map (filter sits state.spans) span_slot) few
