-- A replacement leads from a well formed state to a well formed state.
use Rattle.std.proofs.Common.{◌≡◌, ℕ, ◌≤◌, true, false, not, List, map, ◌++◌, length, refl, sym, ◌∙◌, arith}
use Rattle.std.specs.List.{AllByRecursion, filter}
use Rattle.std.proofs.lemmas.Bool.{eqb-true, not-true}
use Rattle.edit_base.specs.declared.rows.Incoming.{Incoming}
use Rattle.edit_base.specs.declared.bounds.TheConstants.Limits.{TEXT, SPANS}
use Rattle.edit_model.specs.State.{Span, State}
use Rattle.edit_model.specs.Flags.{kind_of, is_point_mark}
use Rattle.edit_model.specs.Over.{is_watch}
use Rattle.edit_model.specs.Brought.{coming_spans, placed_span}
use Rattle.edit_model.specs.Replaced.{spliced, spliced_length, is_emptied, moved_span, kept_spans, stayed_spans, came_spans, replaced}
use Rattle.edit_model.specs.Verdicts.{brings_reserved}
use Rattle.edit_model.specs.Attached.{has_id, is_attached}
use Rattle.edit_model.specs.WellFormed.{IsSpanOver, HasDistinctIds, HasDistinctSeats, IsWellFormed, HasSlot, IsSeated}
use Rattle.edit_model.proofs.Splices.{length-spliced}
use Rattle.edit_model.proofs.MovedSpans.{other_kinds_kept, span_over-moved}
use Rattle.edit_model.proofs.Newcomers.{MayCome, all-brought, attached-brought, distinct-newcomers, span_over-placed, silent-coming, silent-brought, slot-silent, seats-append}
use Rattle.edit_model.proofs.SpanLists.{all-append, all-filter, all-filter_passes, all-map, all-weaker, distinct-filter, distinct-map, attached-filter, attached-map, seats-filter, seats-map}

kept_by_flags : (s e n : ℕ) (span : Span) (word : ℕ) → span.flags ≡ word → is_point_mark (kind_of word) ≡ false → not (is_emptied s e n span) ≡ true
kept_by_flags s e n span word flags other = rw (other_kinds_kept s e n span (rw flags other))

module _ (units : List ℕ) (s e n : ℕ) (spans : List Span) (each : AllByRecursion (IsSpanOver units) spans) where
  -- the ends of the selection are never emptied
  first_kept : is_attached 0 (kept_spans s e n spans) ≡ is_attached 0 spans
  first_kept = attached-filter 0 (λ span. not (is_emptied s e n span)) spans
      (all-weaker (IsSpanOver units) (λ span. has_id 0 span ≡ true → not (is_emptied s e n span) ≡ true)
      (λ span over is. kept_by_flags s e n span 546 (over.kept.0 (eqb-true _ _ is)).0 refl) spans each)

  last_kept : is_attached 1 (kept_spans s e n spans) ≡ is_attached 1 spans
  last_kept = attached-filter 1 (λ span. not (is_emptied s e n span)) spans
      (all-weaker (IsSpanOver units) (λ span. has_id 1 span ≡ true → not (is_emptied s e n span) ≡ true)
      (λ span over is. kept_by_flags s e n span 34 (over.kept.1 (eqb-true _ _ is)).0 refl) spans each)

module _ (state : State) (s e : ℕ) (incoming : Incoming) (ordered : s ≤ e) (within : e ≤ length state.units)
    (may : AllByRecursion MayCome (coming_spans incoming)) where
  stayed : List Span
  stayed = stayed_spans state s e (length incoming.units)

  came : List Span
  came = came_spans state s e incoming

  -- the kept spans lie over the new text
  stayed_over : AllByRecursion (IsSpanOver state.units) state.spans → AllByRecursion (IsSpanOver (spliced state.units s e incoming.units)) stayed
  unfolding stayed
  stayed_over each =
      let n : ℕ = length incoming.units in
      let keep = λ (span : Span). not (is_emptied s e n span) in
      all-map (λ span. IsSpanOver state.units span × (keep span ≡ true)) _ (moved_span s e n state.units)
      (λ span is. span_over-moved state.units s e incoming.units ordered within span is.0 (not-true _ is.1))
      (filter keep state.spans) (all-filter_passes (IsSpanOver state.units) keep state.spans each)

  -- so do those that came
  came_over : AllByRecursion (IsSpanOver (spliced state.units s e incoming.units)) came
  unfolding came
  came_over =
      all-brought (spliced state.units s e incoming.units) (stayed_spans state s e (length incoming.units)) s incoming may
      (IsSpanOver (spliced state.units s e incoming.units))
      (λ span comes has. span_over-placed (spliced state.units s e incoming.units) s (length incoming.units) span
      (omega (arith, ordered, within, length-spliced state.units s e incoming.units ordered within)) comes has)

  stayed_distinct : HasDistinctIds state.spans → HasDistinctIds stayed
  unfolding stayed
  stayed_distinct distinct =
      let keep = λ (span : Span). not (is_emptied s e (length incoming.units) span) in
      distinct-map (moved_span s e (length incoming.units) state.units) (λ span. refl) (filter keep state.spans) (distinct-filter keep state.spans distinct)

  -- the ends of the selection are both attached, or neither is
  selection_stays : AllByRecursion (IsSpanOver state.units) state.spans → is_attached 0 state.spans ≡ is_attached 1 state.spans
      → is_attached 0 (stayed ++ came) ≡ is_attached 1 (stayed ++ came)
  unfolding stayed came
  selection_stays each both =
      let n : ℕ = length incoming.units in
      let kept : List Span = kept_spans s e n state.spans in
      let move = moved_span s e n state.units in
      let new : List ℕ = spliced state.units s e incoming.units in
      attached-brought 0 new (map move kept) s incoming may (omega arith)
      ∙ attached-map move (λ span. refl) 0 kept ∙ first_kept state.units s e n state.spans each ∙ both
      ∙ sym (attached-brought 1 new (map move kept) s incoming may (omega arith)
      ∙ attached-map move (λ span. refl) 1 kept ∙ last_kept state.units s e n state.spans each)

  -- no two watch for one slot: none that came watches
  seats_stay : HasDistinctSeats state.spans → HasDistinctSeats (stayed ++ came)
  unfolding stayed came
  seats_stay apart =
      let keep = λ (span : Span). not (is_emptied s e (length incoming.units) span) in
      seats-append (stayed_spans state s e (length incoming.units)) (came_spans state s e incoming)
      (seats-map (moved_span s e (length incoming.units) state.units) (λ span. refl) (filter keep state.spans) (seats-filter keep state.spans apart))
      (silent-brought (spliced state.units s e incoming.units) (stayed_spans state s e (length incoming.units)) s incoming
      (all-weaker MayCome (λ span. is_watch span.what ≡ false) (λ span may. may.silent) (coming_spans incoming) may))

  pub well_formed-replaced : spliced_length (length state.units) s e (length incoming.units) ≤ TEXT → length (replaced state s e incoming).spans ≤ SPANS
      → IsWellFormed state → IsWellFormed (replaced state s e incoming)
  unfolding stayed came
  well_formed-replaced short few formed = record {
    spans = all-append (IsSpanOver (spliced state.units s e incoming.units)) stayed came (stayed_over formed.spans) came_over;
    distinct = distinct-newcomers (spliced state.units s e incoming.units) stayed (map (placed_span s (length incoming.units)) (coming_spans incoming))
        (stayed_distinct formed.distinct);
    apart = seats_stay formed.apart;
    few = few;
    short = rw (length-spliced state.units s e incoming.units ordered within) short;
    selection = selection_stays formed.spans formed.selection;
  }

pub seated-replaced : (slots : ℕ) (state : State) (s e : ℕ) (incoming : Incoming) → brings_reserved incoming ≡ false → IsSeated slots state.spans
    → IsSeated slots (replaced state s e incoming).spans
seated-replaced slots state s e incoming free seated =
    let n : ℕ = length incoming.units in
    let keep = λ (span : Span). not (is_emptied s e n span) in
    let move = moved_span s e n state.units in
    let silent = silent-brought (spliced state.units s e incoming.units) (stayed_spans state s e n) s incoming (silent-coming incoming free) in
    all-append (λ span. HasSlot slots span.what) (stayed_spans state s e n) (came_spans state s e incoming)
    (all-map (λ span. HasSlot slots span.what) _ move (λ span is. is) (filter keep state.spans)
    (all-filter (λ span. HasSlot slots span.what) keep state.spans seated))
    (all-weaker (λ span. is_watch span.what ≡ false) (λ span. HasSlot slots span.what) (λ span is. slot-silent slots span.what is)
    (came_spans state s e incoming) silent)
