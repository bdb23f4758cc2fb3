-- The selection set and removed, and the composing region marked and dropped, in well formed states.
use Rattle.std.proofs.Common.{◌≡◌, ℕ, ℤ, pos, negsuc, ◌+◌, ◌<◌, ◌≤◌, ◌||◌, Bool, true, false, not, cond, ltb, List, [], ◌∷◌, ◌++◌, map, length, refl, sym, ap, subst, ◌∙◌, arith, append_assoc, length-append}
use Rattle.std.specs.Prelude.{int_lt}
use Rattle.std.specs.List.{filter}
use Rattle.std.proofs.lemmas.Bool.{cond_both, or_parts, or_from, not-true, not_from_false, eqb-true, ltb-false, ne_eqb, false≢true}
use Rattle.std.proofs.lemmas.List.{length-map, length_push}
use Rattle.std.proofs.lemmas.List.Filters.{length-filter_both}
use Rattle.edit_base.specs.declared.bounds.TheConstants.Limits.{SPANS}
use Rattle.edit_model.specs.State.{Span, State, place}
use Rattle.edit_model.specs.Flags.{kind_of, is_point_mark, is_paragraph, is_composing}
use Rattle.edit_model.specs.Attached.{has_id, is_attached}
use Rattle.edit_model.specs.Selection.{selection_start, selection_end, is_of_selection, has_selection, at_place, with_ends, region_span, has_region, is_dropped}
use Rattle.edit_model.specs.WellFormed.{IsSpanOver, HasDistinctIds, IsWellFormed, HasSlot, IsSeated, composing_id}
use Rattle.edit_model.specs.Verdicts.{span_count_after_select, span_count_after_mark}
use Rattle.edit_model.specs.Changed.{selected_spans, deselected_spans, dropped_spans}
use Rattle.edit_model.proofs.SpanLists.{all-filter, all-push, all-append, all-map, all-weaker, distinct-filter, distinct-map, distinct-push, attached-filter, attached-map, attached-push, seats-filter, seats-map}
use Rattle.edit_model.proofs.Newcomers.{attached-append, seats-append}

-- ---- places

-- places that lie in a text, whatever their order
pub places_within : (last : ℕ) (start end : ℤ) → (int_lt (pos last) start || int_lt (pos last) end) ≡ false → (place start ≤ last) × (place end ≤ last)
places_within last (pos s) (pos e) beyond = let parts = or_parts (ltb last s) (ltb last e) beyond in (ltb-false _ _ parts.0, ltb-false _ _ parts.1)
places_within last (pos s) (negsuc e) beyond = let parts = or_parts (ltb last s) false beyond in (ltb-false _ _ parts.0, omega arith)
places_within last (negsuc s) (pos e) beyond = (omega arith, ltb-false _ _ beyond)
places_within last (negsuc s) (negsuc e) beyond = (omega arith, omega arith)

-- ---- the ends of a selection

module _ (units : List ℕ) (at : ℕ) (within : at ≤ length units) where
  pub over-start : IsSpanOver units (selection_start at)
  over-start = record {
    flags = refl;
    ordered = omega arith;
    within = within;
    filled = λ is. absurd (cc);
    starts = λ is. absurd (cc);
    ends = λ is. absurd (cc);
    kept = (λ is. (refl, refl, refl), λ is. absurd (omega arith), λ is. absurd (omega arith), λ is. absurd (omega arith));
  }

  pub over-end : IsSpanOver units (selection_end at)
  over-end = record {
    flags = refl;
    ordered = omega arith;
    within = within;
    filled = λ is. absurd (cc);
    starts = λ is. absurd (cc);
    ends = λ is. absurd (cc);
    kept = (λ is. absurd (omega arith), λ is. (refl, refl, refl), λ is. absurd (omega arith), λ is. absurd (omega arith));
  }

  -- an end of the selection at another place
  over-at_first : (span : Span) → IsSpanOver units span → span.id ≡ 0 → IsSpanOver units (at_place at span)
  over-at_first span over zero =
      let k = over.kept.0 zero in
      record {
        flags = over.flags;
        ordered = omega arith;
        within = within;
        filled = λ is. absurd (false≢true (sym (ap (λ word. is_point_mark (kind_of word)) k.0) ∙ is));
        starts = λ is. absurd (false≢true (sym (ap (λ word. is_paragraph (kind_of word)) k.0) ∙ is));
        ends = λ is. absurd (false≢true (sym (ap (λ word. is_paragraph (kind_of word)) k.0) ∙ is));
        kept = (λ is. (k.0, k.1, refl), λ is. absurd (omega (arith, zero)), over.kept.2, over.kept.3);
      }

  over-at_last : (span : Span) → IsSpanOver units span → span.id ≡ 1 → IsSpanOver units (at_place at span)
  over-at_last span over one =
      let k = over.kept.1 one in
      record {
        flags = over.flags;
        ordered = omega arith;
        within = within;
        filled = λ is. absurd (false≢true (sym (ap (λ word. is_point_mark (kind_of word)) k.0) ∙ is));
        starts = λ is. absurd (false≢true (sym (ap (λ word. is_paragraph (kind_of word)) k.0) ∙ is));
        ends = λ is. absurd (false≢true (sym (ap (λ word. is_paragraph (kind_of word)) k.0) ∙ is));
        kept = (λ is. absurd (omega (arith, one)), λ is. (k.0, k.1, refl), over.kept.2, over.kept.3);
      }

-- ---- a selection that moves

module _ (a b : ℕ) where
  -- what holds of the span at each place, and of the span, holds of it with the selection's ends
  by_end : (P : Span → Type 0) (span : Span) → (has_id 0 span ≡ true → P (at_place a span)) → (has_id 1 span ≡ true → P (at_place b span)) → P span
      → P (with_ends a b span)
  by_end P span first last other =
      cond_both (has_id 0 span) (at_place a span) (cond (has_id 1 span) (at_place b span) span) P first
      (λ is. cond_both (has_id 1 span) (at_place b span) span P last (λ is. other))

  pub id-with_ends : (span : Span) → (with_ends a b span).id ≡ span.id
  id-with_ends span = by_end (λ one. one.id ≡ span.id) span (λ is. refl) (λ is. refl) refl

  pub what-with_ends : (span : Span) → (with_ends a b span).what ≡ span.what
  what-with_ends span = by_end (λ one. one.what ≡ span.what) span (λ is. refl) (λ is. refl) refl

  over-with_ends : (units : List ℕ) → a ≤ length units → b ≤ length units → (span : Span) → IsSpanOver units span → IsSpanOver units (with_ends a b span)
  over-with_ends units first last span over =
      by_end (IsSpanOver units) span (λ is. over-at_first units a first span over (eqb-true _ _ is)) (λ is. over-at_last units b last span over (eqb-true _ _ is)) over

  well_formed-moved : (state : State) → a ≤ length state.units → b ≤ length state.units → IsWellFormed state
      → IsWellFormed (record { units = state.units; spans = map (with_ends a b) state.spans })
  well_formed-moved state first last formed = record {
    spans = all-map (IsSpanOver state.units) (IsSpanOver state.units) (with_ends a b) (over-with_ends state.units first last) state.spans formed.spans;
    distinct = distinct-map (with_ends a b) id-with_ends state.spans formed.distinct;
    apart = seats-map (with_ends a b) what-with_ends state.spans formed.apart;
    few = rw (length-map state.spans (with_ends a b)) formed.few;
    short = formed.short;
    selection = attached-map (with_ends a b) id-with_ends 0 state.spans ∙ formed.selection ∙ sym (attached-map (with_ends a b) id-with_ends 1 state.spans);
  }

  -- ---- a selection that comes

  both_ends : List Span
  both_ends = selection_start a ∷ selection_end b ∷ []

  distinct-came : (spans : List Span) → is_attached 0 spans ≡ false → is_attached 1 spans ≡ false → HasDistinctIds spans → HasDistinctIds (spans ++ both_ends)
  unfolding both_ends
  distinct-came spans first last distinct =
      subst HasDistinctIds (append_assoc spans (selection_start a ∷ []) (selection_end b ∷ []))
      (distinct-push (selection_end b) (spans ++ selection_start a ∷ []) (attached-push 1 (selection_start a) spans refl ∙ last)
      (distinct-push (selection_start a) spans first distinct))

  well_formed-came : (state : State) → a ≤ length state.units → b ≤ length state.units → has_selection state.spans ≡ false
      → length state.spans + 2 ≤ SPANS → IsWellFormed state → IsWellFormed (record { units = state.units; spans = state.spans ++ both_ends })
  unfolding both_ends
  well_formed-came state first last none few formed = record {
    spans = all-append (IsSpanOver state.units) state.spans both_ends formed.spans (over-start state.units a first, (over-end state.units b last, tt));
    distinct = distinct-came state.spans none (sym formed.selection ∙ none) formed.distinct;
    apart = seats-append state.spans both_ends formed.apart (refl, (refl, tt));
    few = omega (arith, few, length-append state.spans both_ends);
    short = formed.short;
    selection = attached-append 0 state.spans both_ends ∙ ap (λ here. here || true) formed.selection ∙ sym (attached-append 1 state.spans both_ends);
  }

  -- ---- either

  pub well_formed-selected : (state : State) → a ≤ length state.units → b ≤ length state.units → span_count_after_select state ≤ SPANS
      → IsWellFormed state → IsWellFormed (record { units = state.units; spans = selected_spans a b state.spans })
  unfolding both_ends
  well_formed-selected state first last few formed =
      cond_both (has_selection state.spans) (map (with_ends a b) state.spans) (state.spans ++ both_ends)
      (λ spans. IsWellFormed (record { units = state.units; spans = spans }))
      (λ is. well_formed-moved state first last formed)
      (λ none. well_formed-came state first last none
      (subst (λ test. cond test (length state.spans) (length state.spans + 2) ≤ SPANS) none few) formed)

  pub seated-selected : (slots : ℕ) (spans : List Span) → IsSeated slots spans → IsSeated slots (selected_spans a b spans)
  unfolding both_ends
  seated-selected slots spans seated =
      cond_both (has_selection spans) (map (with_ends a b) spans) (spans ++ both_ends) (IsSeated slots)
      (λ is. all-map (λ span. HasSlot slots span.what) (λ span. HasSlot slots span.what) (with_ends a b)
      (λ span has. subst (HasSlot slots) (sym (what-with_ends span)) has) spans seated)
      (λ none. all-append (λ span. HasSlot slots span.what) spans both_ends seated (tt, (tt, tt)))

-- ---- spans that go

-- where no span of an id is kept, the id isn't attached
pub none_kept : (id : ℕ) (keep : Span → Bool) → ((span : Span) → keep span ≡ true → has_id id span ≡ false) → (spans : List Span)
    → is_attached id (filter keep spans) ≡ false
none_kept id keep away [] = refl
none_kept id keep away (span ∷ spans) =
    cond_both (keep span) (span ∷ filter keep spans) (filter keep spans) (λ list. is_attached id list ≡ false)
    (λ is. or_from _ _ (away span is) (none_kept id keep away spans)) (λ is. none_kept id keep away spans)

well_formed-filter : (keep : Span → Bool) (state : State) → is_attached 0 (filter keep state.spans) ≡ is_attached 1 (filter keep state.spans)
    → IsWellFormed state → IsWellFormed (record { units = state.units; spans = filter keep state.spans })
well_formed-filter keep state both formed = record {
  spans = all-filter (IsSpanOver state.units) keep state.spans formed.spans;
  distinct = distinct-filter keep state.spans formed.distinct;
  apart = seats-filter keep state.spans formed.apart;
  few = omega (arith, formed.few, length-filter_both (λ span. not (keep span)) keep (λ span. keeps (keep span)) state.spans);
  short = formed.short;
  selection = both;
}
  where
    keeps : (test : Bool) → test ≡ not (not test)
    keeps true = refl
    keeps false = refl

pub not_of_selection : (id : ℕ) → id < 2 → (span : Span) → not (is_of_selection span) ≡ true → has_id id span ≡ false
not_of_selection id low span is = let other = ltb-false span.id 2 (not-true _ is) in ne_eqb span.id id (omega (arith, low, other))

pub well_formed-deselected : (state : State) → IsWellFormed state → IsWellFormed (record { units = state.units; spans = deselected_spans state.spans })
well_formed-deselected state formed =
    well_formed-filter (λ span. not (is_of_selection span)) state
    (none_kept 0 (λ span. not (is_of_selection span)) (not_of_selection 0 (omega arith)) state.spans
    ∙ sym (none_kept 1 (λ span. not (is_of_selection span)) (not_of_selection 1 (omega arith)) state.spans)) formed

-- a span of another id whose word doesn't say so isn't dropped
stays_undropped : (span : Span) (word : ℕ) → span.id < 2 → span.flags ≡ word → is_composing word ≡ false → not (is_dropped span) ≡ true
stays_undropped span word low flags other =
    not_from_false (is_dropped span) (or_from _ _ (ne_eqb span.id composing_id (omega (arith, low))) (ap is_composing flags ∙ other))

pub well_formed-dropped : (state : State) → IsWellFormed state → IsWellFormed (record { units = state.units; spans = dropped_spans state.spans })
well_formed-dropped state formed =
    let keep = λ (span : Span). not (is_dropped span) in
    well_formed-filter keep state
    (attached-filter 0 keep state.spans
    (all-weaker (IsSpanOver state.units) (λ span. has_id 0 span ≡ true → keep span ≡ true)
    (λ span over is. let zero = eqb-true _ _ is in stays_undropped span 546 (omega (arith, zero)) (over.kept.0 zero).0 refl) state.spans formed.spans)
    ∙ formed.selection
    ∙ sym (attached-filter 1 keep state.spans
    (all-weaker (IsSpanOver state.units) (λ span. has_id 1 span ≡ true → keep span ≡ true)
    (λ span over is. let one = eqb-true _ _ is in stays_undropped span 34 (omega (arith, one)) (over.kept.1 one).0 refl) state.spans formed.spans))) formed

pub seated-filter : (slots : ℕ) (keep : Span → Bool) (spans : List Span) → IsSeated slots spans → IsSeated slots (filter keep spans)
seated-filter slots keep spans seated = all-filter (λ span. HasSlot slots span.what) keep spans seated

-- ---- the region

pub over-region : (units : List ℕ) (start end : ℕ) → start < end → end ≤ length units → IsSpanOver units (region_span start end)
over-region units start end filled within = record {
  flags = refl;
  ordered = omega (arith, filled);
  within = within;
  filled = λ is. filled;
  starts = λ is. absurd (cc);
  ends = λ is. absurd (cc);
  kept = (λ is. absurd (omega arith), λ is. absurd (omega arith), λ is. (refl, refl), λ is. absurd (omega arith));
}

pub well_formed-marked : (state : State) (start end : ℕ) → start < end → end ≤ length state.units → has_region state.spans ≡ false
    → span_count_after_mark state ≤ SPANS → IsWellFormed state
    → IsWellFormed (record { units = state.units; spans = state.spans ++ region_span start end ∷ [] })
well_formed-marked state start end filled within none few formed = record {
  spans = all-push (IsSpanOver state.units) (region_span start end) state.spans (over-region state.units start end filled within) formed.spans;
  distinct = distinct-push (region_span start end) state.spans none formed.distinct;
  apart = seats-append state.spans (region_span start end ∷ []) formed.apart (refl, tt);
  few = rw (length_push state.spans (region_span start end)) few;
  short = formed.short;
  selection = attached-push 0 (region_span start end) state.spans refl ∙ formed.selection ∙ sym (attached-push 1 (region_span start end) state.spans refl);
}

pub seated-marked : (slots start end : ℕ) (spans : List Span) → IsSeated slots spans → IsSeated slots (spans ++ region_span start end ∷ [])
seated-marked slots start end spans seated = all-push (λ span. HasSlot slots span.what) (region_span start end) spans tt seated
