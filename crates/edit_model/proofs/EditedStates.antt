-- Every edit leads from a well formed state to a well formed state.
use Rattle.std.proofs.Common.{◌≡◌, ℕ, ℤ, pos, ◌<◌, ◌≤◌, ◌&&◌, Bool, true, false, not, length, refl, sym, ap, ◌∙◌, inl, inr, arith}
use Rattle.std.specs.Ordering.{int_eq}
use Rattle.std.specs.List.{All}
use Rattle.std.proofs.lemmas.Bool.{or_parts, ltb-false, eqb-false, cases_lt, false≢true}
use Rattle.std.proofs.lemmas.Bool.Decides.{Decides-int_eq}
use Rattle.edit_base.specs.declared.kinds.What.{What}
use Rattle.edit_base.specs.declared.bounds.TheConstants.Limits.{TEXT, SPANS}
use Rattle.edit_base.specs.declared.rows.Incoming.{Incoming}
use Rattle.edit_model.specs.Replaced.{spliced_length, replaced}
use Rattle.edit_base.specs.declared.verdicts.Verdict.{Verdict}
use Rattle.edit_base.specs.declared.verdicts.Verdict.TheVariants.{Done, NoChange, Ignored, Absent, Refused}
use Rattle.edit_model.specs.declared.steps.Step.{Step}
use Rattle.edit_model.specs.declared.steps.Step.TheVariants as step
use Rattle.edit_model.specs.State.{Span, State, place, ArePlaces}
use Rattle.edit_model.specs.Flags.{kind_of, is_point_mark, is_paragraph}
use Rattle.edit_model.specs.Boundaries.{is_boundary}
use Rattle.edit_model.specs.WellFormed.{IsSpanOver, IsWellFormed, IsSeated, is_kept_what}
use Rattle.edit_model.specs.Brought.{IsOrdered}
use Rattle.edit_model.specs.Laws.{BringsOrdered}
use Rattle.edit_model.specs.Verdicts.{first_of, replace_lines, set_lines, remove_lines, select_lines, mark_lines, judged, is_kept_id}
use Rattle.edit_model.specs.Selection.{has_region, is_of_selection, is_dropped}
use Rattle.edit_model.specs.Changed.{on_done, stepped, state_after}
use Rattle.edit_model.proofs.Tables.{none_applies, NoneApplies, places_pass}
use Rattle.edit_model.proofs.Newcomers.{all_may_come, kept_right-free}
use Rattle.edit_model.proofs.Replacements.{well_formed-replaced, seated-replaced}
use Rattle.edit_model.proofs.Selections.{places_within, well_formed-selected, seated-selected, well_formed-deselected, well_formed-dropped, seated-filter, well_formed-marked, seated-marked}
use Rattle.edit_model.proofs.AttachedSpans.{well_formed-with_span, seated-with_span, well_formed-without_span, seated-without_span}

-- ---- what the tests of a table say where they don't apply

-- the places of a span that may not be empty differ
filled_unless : (last : ℕ) (start end : ℤ) (point_mark : Bool) → ArePlaces last start end
    → (point_mark && int_eq start end) ≡ false → point_mark ≡ true → place start < place end
filled_unless last start end false places ignored is = absurd (cc)
filled_unless last start end true places ignored is = elim (cases_lt (place start) (place end)) [
  | inl some ↦ some
  | inr none ↦
      let one : place start ≡ place end = omega (arith, places.ordered) in
      let same : start ≡ end = places.starts ∙ ap pos one ∙ sym places.ends in
      absurd (false≢true (sym ignored ∙ (Decides-int_eq start end).1 same))
]

boundary_unless : (paragraph boundary : Bool) → (paragraph && not boundary) ≡ false → paragraph ≡ true → boundary ≡ true
boundary_unless true true broken is = refl
boundary_unless true false broken is = absurd (cc)
boundary_unless false boundary broken is = absurd (cc)

-- ---- each kind of edit

-- the span that a set attaches
abbrev pub set_span : ℕ → ℤ → ℤ → ℕ → What → Span
set_span id start end flags what = record { id = id; start = place start; end = place end; flags = flags; what = what }

-- a replacement that is done: its places lie in the text, in order, and neither units nor spans are too many then
pub record Passes (state : State) (start end : ℤ) (incoming : Incoming) : Type 0 where
  pub places : ArePlaces (length state.units) start end
  pub short : spliced_length (length state.units) (place start) (place end) (length incoming.units) ≤ TEXT
  pub few : length (replaced state (place start) (place end) incoming).spans ≤ SPANS

pub passes : (state : State) (slots : ℕ) (start end : ℤ) (incoming : Incoming)
    → judged state slots (step.Replace start end incoming) ≡ Done → Passes state start end incoming
unfolding judged
passes state slots start end incoming is_done =
    let n = none_applies (replace_lines state start end incoming) refl is_done in
    record {
      places = places_pass (length state.units) start end n.1.1.0 n.1.1.1.0 n.1.1.1.1.0;
      short = ltb-false _ _ n.1.1.1.1.1.1.0;
      few = ltb-false _ _ n.1.1.1.1.1.1.1.0;
    }

pub well_formed-replace : (state : State) (start end : ℤ) (incoming : Incoming)
    → first_of (replace_lines state start end incoming) ≡ Done → All IsOrdered incoming.spans
    → IsWellFormed state → IsWellFormed (stepped state (step.Replace start end incoming))
unfolding judged stepped
well_formed-replace state start end incoming is_done in_order formed =
    let n = none_applies (replace_lines state start end incoming) refl is_done in
    let p = passes state 0 start end incoming is_done in
    well_formed-replaced state (place start) (place end) incoming p.places.ordered p.places.within
    (all_may_come incoming in_order n.0 n.1.0) p.short p.few formed

pub seated-replace : (slots : ℕ) (state : State) (start end : ℤ) (incoming : Incoming) → first_of (replace_lines state start end incoming) ≡ Done
    → IsSeated slots state.spans → IsSeated slots (stepped state (step.Replace start end incoming)).spans
unfolding stepped
seated-replace slots state start end incoming is_done seated =
    let n = none_applies (replace_lines state start end incoming) refl is_done in
    seated-replaced slots state (place start) (place end) incoming n.0 seated

module _ (state : State) (slots id : ℕ) (start end : ℤ) (flags : ℕ) (what : What)
    (is_done : first_of (set_lines state slots id start end flags what) ≡ Done) where
  set_passes : NoneApplies (set_lines state slots id start end flags what)
  set_passes = none_applies (set_lines state slots id start end flags what) refl is_done

  set_free : 2 < id
  set_free = ltb-false _ _ (or_parts (is_kept_id id) (is_kept_what what) set_passes.0).0

  -- the new span lies over the text
  pub set_over : IsSpanOver state.units (set_span id start end flags what)
  set_over =
      let n = set_passes in
      let p = places_pass (length state.units) start end n.1.1.1.0 n.1.1.1.1.0 n.1.1.1.1.1.0 in
      record {
        flags = n.1.1.0;
        ordered = p.ordered;
        within = p.within;
        filled = filled_unless (length state.units) start end (is_point_mark (kind_of flags)) p n.1.1.1.1.1.1.1.1.0;
        starts = boundary_unless (is_paragraph (kind_of flags)) (is_boundary state.units (place start)) n.1.1.1.1.1.1.0;
        ends = boundary_unless (is_paragraph (kind_of flags)) (is_boundary state.units (place end)) n.1.1.1.1.1.1.1.0;
        kept = kept_right-free (set_span id start end flags what) set_free (or_parts (is_kept_id id) (is_kept_what what) n.0).1;
      }

  pub well_formed-set : IsWellFormed state → IsWellFormed (stepped state (step.Set id start end flags what))
  unfolding stepped
  well_formed-set formed =
      well_formed-with_span state slots (set_span id start end flags what) set_over set_free set_passes.1.0
      (ltb-false _ _ set_passes.1.1.1.1.1.1.1.1.1.0) formed

  pub seated-set : IsSeated slots state.spans → IsSeated slots (stepped state (step.Set id start end flags what)).spans
  unfolding stepped
  seated-set seated = seated-with_span slots state (set_span id start end flags what) set_passes.1.0 seated

pub well_formed-remove : (state : State) (id : ℕ) → first_of (remove_lines state id) ≡ Done → IsWellFormed state → IsWellFormed (stepped state (step.Remove id))
unfolding stepped
well_formed-remove state id is_done formed =
    let n = none_applies (remove_lines state id) refl is_done in
    well_formed-without_span state id (ltb-false _ _ n.0) formed

-- ---- the selection and the composing region

pub well_formed-select : (state : State) (start end : ℤ) → first_of (select_lines state start end) ≡ Done → IsWellFormed state
    → IsWellFormed (stepped state (step.Select start end))
unfolding stepped
well_formed-select state start end is_done formed =
    let n = none_applies (select_lines state start end) refl is_done in
    let within = places_within (length state.units) start end n.0 in
    well_formed-selected (place start) (place end) state within.0 within.1 (ltb-false _ _ n.1.1.1.0) formed

pub well_formed-mark : (state : State) (start end : ℕ) → first_of (mark_lines state start end) ≡ Done → start ≤ end → has_region state.spans ≡ false
    → IsWellFormed state → IsWellFormed (stepped state (step.Mark start end))
unfolding stepped
well_formed-mark state start end is_done ordered none formed =
    let n = none_applies (mark_lines state start end) refl is_done in
    let within = places_within (length state.units) (pos start) (pos end) n.0 in
    let apart = eqb-false start end n.1.0 in
    well_formed-marked state start end (omega (arith, apart, ordered)) within.1 none (ltb-false _ _ n.1.1.0) formed

-- ---- every edit

pub well_formed-stepped : (state : State) (slots : ℕ) (asked : Step)
    → judged state slots asked ≡ Done → BringsOrdered state asked → IsWellFormed state → IsWellFormed (stepped state asked)
unfolding judged stepped
well_formed-stepped state slots (step.Replace start end incoming) is_done in_order formed = well_formed-replace state start end incoming is_done in_order formed
well_formed-stepped state slots (step.Set id start end flags what) is_done in_order formed = well_formed-set state slots id start end flags what is_done formed
well_formed-stepped state slots (step.Remove id) is_done in_order formed = well_formed-remove state id is_done formed
well_formed-stepped state slots (step.Select start end) is_done in_order formed = well_formed-select state start end is_done formed
well_formed-stepped state slots step.Deselect is_done in_order formed = well_formed-deselected state formed
well_formed-stepped state slots step.Drop is_done in_order formed = well_formed-dropped state formed
well_formed-stepped state slots (step.Mark start end) is_done in_order formed =
    well_formed-mark state start end is_done in_order.0 in_order.1 formed

pub seated-stepped : (state : State) (slots : ℕ) (asked : Step) → judged state slots asked ≡ Done
    → IsSeated slots state.spans → IsSeated slots (stepped state asked).spans
unfolding judged stepped
seated-stepped state slots (step.Replace start end incoming) is_done seated = seated-replace slots state start end incoming is_done seated
seated-stepped state slots (step.Set id start end flags what) is_done seated = seated-set state slots id start end flags what is_done seated
seated-stepped state slots (step.Remove id) is_done seated = seated-without_span slots id state.spans seated
seated-stepped state slots (step.Select start end) is_done seated = seated-selected (place start) (place end) slots state.spans seated
seated-stepped state slots step.Deselect is_done seated = seated-filter slots (λ span. not (is_of_selection span)) state.spans seated
seated-stepped state slots step.Drop is_done seated = seated-filter slots (λ span. not (is_dropped span)) state.spans seated
seated-stepped state slots (step.Mark start end) is_done seated = seated-marked slots start end state.spans seated

-- what holds of the state of an edit that is done, and of the state before, holds of the state after
by_verdict : (P : State → Type 0) (verdict : Verdict) (done kept : State) → (verdict ≡ Done → P done) → P kept → P (on_done verdict done kept)
by_verdict P Done done kept changed same = changed refl
by_verdict P NoChange done kept changed same = same
by_verdict P Ignored done kept changed same = same
by_verdict P Absent done kept changed same = same
by_verdict P (Refused refusal) done kept changed same = same

pub well_formed-after : (state : State) (slots : ℕ) (asked : Step) → BringsOrdered state asked → IsWellFormed state → IsWellFormed (state_after state slots asked)
well_formed-after state slots asked in_order formed =
    by_verdict IsWellFormed (judged state slots asked) (stepped state asked) state
    (λ is_done. well_formed-stepped state slots asked is_done in_order formed) formed

pub seated-after : (state : State) (slots : ℕ) (asked : Step) → IsSeated slots state.spans → IsSeated slots (state_after state slots asked).spans
seated-after state slots asked seated =
    by_verdict (λ one. IsSeated slots one.spans) (judged state slots asked) (stepped state asked) state
    (λ is_done. seated-stepped state slots asked is_done seated) seated
