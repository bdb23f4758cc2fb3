-- A composing region comes with a connection's text and with a mark, and in no other way.
use Rattle.std.proofs.Common.{◌≡◌, ◌≢◌, ℕ, ℤ, ◌<◌, ◌++◌, Bool, true, false, not, cond, List, [], ◌∷◌, map, length, refl, ap, ◌∙◌, arith}
use Rattle.std.specs.List.{fold, list_any}
use Rattle.std.proofs.lemmas.Bool.{cond_both, or_parts, or_from, ltb-false, ne_eqb, not-true}
use Rattle.edit_base.specs.declared.edits.Edit.{Edit}
use Rattle.edit_base.specs.declared.edits.Edit.TheVariants as edit
use Rattle.edit_base.specs.declared.kinds.What.{What}
use Rattle.edit_base.specs.declared.rows.Incoming.{Incoming}
use Rattle.edit_base.specs.declared.verdicts.Verdict.TheVariants.{Done, NoChange}
use Rattle.edit_model.specs.declared.filters.Filter.{Filter}
use Rattle.edit_model.specs.declared.items.Item.TheVariants as item
use Rattle.edit_model.specs.declared.steps.Step.TheVariants as step
use Rattle.edit_model.specs.State.{Span, State, place}
use Rattle.edit_model.specs.Attached.{has_id, is_attached}
use Rattle.edit_model.specs.Filtered.{clipped, through, filtered, lies_within}
use Rattle.edit_model.specs.Replaced.{is_emptied, moved_span, kept_spans, stayed_spans, came_spans}
use Rattle.edit_model.specs.Selection.{selection_start, selection_end, has_selection, with_ends, has_region, is_dropped}
use Rattle.edit_model.specs.Verdicts.{judged, set_lines, is_kept_id}
use Rattle.edit_model.specs.WellFormed.{composing_id, is_kept_what}
use Rattle.edit_model.specs.Changed.{stepped, selected_spans}
use Rattle.edit_model.specs.Machine.{Setup, Scene, alone, resolved_edit, resolved, as_brought, judged_at}
use Rattle.edit_model.specs.Outcome.{outcome}
use Rattle.edit_model.proofs.Tables.{none_applies}
use Rattle.edit_model.proofs.SpanLists.{absent-filter, attached-map}
use Rattle.edit_model.proofs.Newcomers.{attached-append}
use Rattle.edit_model.proofs.AttachedSpans.{attached-with_span}
use Rattle.edit_model.proofs.Selections.{none_kept, id-with_ends}
use Rattle.edit_model.proofs.KeptOutcomes.{IsKept, kept-outcome}

-- no region is attached
abbrev pub HasNoRegion : State → Type 0
HasNoRegion state = has_region state.spans ≡ false

-- ---- texts that come alone

-- neither spans nor a region come with a text
pub record IsAlone (incoming : Incoming) : Type 0 where
  pub spans : incoming.spans ≡ []
  pub composing : incoming.composing ≡ false

alone-through : (others : ℕ) (incoming : Incoming) (it : Filter) → IsAlone incoming → IsAlone (through others incoming it)
alone-through others incoming it is = record { spans = rw is.spans refl; composing = is.composing }

alone-fold : (others : ℕ) (filters : List Filter) (incoming : Incoming) → IsAlone incoming → IsAlone (fold (through others) incoming filters)
alone-fold others [] incoming is = is
alone-fold others (it ∷ filters) incoming is = alone-fold others filters (through others incoming it) (alone-through others incoming it is)

alone-filtered : (filters : List Filter) (units : List ℕ) (length_before s e : ℕ) → IsAlone (filtered filters (alone units) length_before s e)
unfolding filtered
alone-filtered filters units length_before s e = alone-fold _ filters (clipped (alone units)) (record { spans = refl; composing = refl })

alone-if : (test : Bool) (filters : List Filter) (units : List ℕ) (length_before s e : ℕ)
    → IsAlone (cond test (filtered filters (alone units) length_before s e) (alone units))
alone-if true filters units length_before s e = alone-filtered filters units length_before s e
alone-if false filters units length_before s e = record { spans = refl; composing = refl }

no_region-stayed : (state : State) (s e n : ℕ) → HasNoRegion state → is_attached composing_id (stayed_spans state s e n) ≡ false
no_region-stayed state s e n none =
    attached-map (moved_span s e n state.units) (λ span. refl) composing_id (kept_spans s e n state.spans)
    ∙ absent-filter composing_id (λ span. not (is_emptied s e n span)) state.spans none

no_region-replaced : (state : State) (start end : ℤ) (incoming : Incoming) → IsAlone incoming → HasNoRegion state
    → HasNoRegion (stepped state (step.Replace start end incoming))
unfolding stepped
no_region-replaced state start end incoming is none =
    let came : came_spans state (place start) (place end) incoming ≡ [] = rw (is.spans, is.composing) refl in
    attached-append composing_id (stayed_spans state (place start) (place end) (length incoming.units)) (came_spans state (place start) (place end) incoming)
    ∙ or_from _ _ (no_region-stayed state (place start) (place end) (length incoming.units) none) (ap (is_attached composing_id) came)

-- ---- other edits

no_region-set : (state : State) (slots id : ℕ) (start end : ℤ) (flags : ℕ) (what : What) → judged state slots (step.Set id start end flags what) ≡ Done
    → HasNoRegion state → HasNoRegion (stepped state (step.Set id start end flags what))
unfolding judged stepped
no_region-set state slots id start end flags what is_done none =
    let n = none_applies (set_lines state slots id start end flags what) refl is_done in
    let free : 2 < id = ltb-false _ _ (or_parts (is_kept_id id) (is_kept_what what) n.0).0 in
    attached-with_span composing_id (record { id = id; start = place start; end = place end; flags = flags; what = what }) state.spans
    (ne_eqb id composing_id (omega (arith, free))) ∙ none

no_region-selected : (a b : ℕ) (spans : List Span) → has_region spans ≡ false → has_region (selected_spans a b spans) ≡ false
no_region-selected a b spans none =
    cond_both (has_selection spans) (map (with_ends a b) spans) (spans ++ selection_start a ∷ selection_end b ∷ []) (λ list. has_region list ≡ false)
    (λ is. attached-map (with_ends a b) (id-with_ends a b) composing_id spans ∙ none)
    (λ is. attached-append composing_id spans (selection_start a ∷ selection_end b ∷ []) ∙ or_from _ _ none refl)

-- no edit that a watcher may answer attaches a region
pub no_region-kept : (r : Setup) → IsKept r HasNoRegion
unfolding resolved_edit stepped
no_region-kept r = record { edit = keeps }
  where
    keeps : (state : State) (it : Edit) → judged state (length r.slots) (as_brought r (resolved_edit it) state) ≡ Done → HasNoRegion state
        → HasNoRegion (stepped state (as_brought r (resolved_edit it) state))
    keeps state (edit.Replace start end text) is_done none =
        no_region-replaced state start end _ (alone-if (lies_within state start end) r.filters text.items (length state.units) (place start) (place end)) none
    keeps state (edit.SetSpan id start end flags what) is_done none = no_region-set state (length r.slots) id start end flags what is_done none
    keeps state (edit.RemoveSpan id) is_done none = absent-filter composing_id (λ span. not (has_id id span)) state.spans none
    keeps state (edit.Select start end) is_done none = no_region-selected (place start) (place end) state.spans none

-- ---- a drop

-- a span that isn't dropped isn't the region
not_region : (span : Span) → not (is_dropped span) ≡ true → has_id composing_id span ≡ false
not_region span is = (or_parts _ _ (not-true _ is)).0

-- where nothing is dropped there is no region
none_dropped : (spans : List Span) → list_any is_dropped spans ≡ false → has_region spans ≡ false
none_dropped [] none = refl
none_dropped (span ∷ spans) none =
    let parts = or_parts (is_dropped span) (list_any is_dropped spans) none in
    or_from _ _ (or_parts _ _ parts.0).0 (none_dropped spans parts.1)

no_region-undone : (state : State) (test : Bool) → list_any is_dropped state.spans ≡ test → (cond (not test) NoChange Done ≢ Done) → HasNoRegion state
no_region-undone state true is other = absurd (other refl)
no_region-undone state false is other = none_dropped state.spans is

pub no_region-drop : (r : Setup) (s : Scene) → HasNoRegion (outcome r item.Drop s).state
unfolding judged stepped resolved judged_at
no_region-drop r s =
    kept-outcome r HasNoRegion (no_region-kept r) item.Drop s
    (λ is. none_kept composing_id (λ span. not (is_dropped span)) not_region s.state.spans)
    (λ other. no_region-undone s.state (list_any is_dropped s.state.spans) refl other)
