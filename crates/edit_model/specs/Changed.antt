-- The state after an edit, and what the edit changed.
use Rattle.std.specs.Prelude.{ℕ, ◌++◌, ◌&&◌, ◌==◌, Bool, not, List, [], ◌∷◌, map, filter, length, if◌then◌else◌}
use Rattle.edit_base.specs.declared.verdicts.Verdict.{Verdict}
use Rattle.edit_base.specs.declared.verdicts.Verdict.TheVariants.{Done, NoChange, Ignored, Absent, Refused}
use Rattle.edit_model.specs.declared.steps.Step.{Step}
use Rattle.edit_model.specs.declared.steps.Step.TheVariants as step
use Rattle.edit_model.specs.State.{Span, State, place}
use Rattle.edit_model.specs.Replaced.{replaced, moved_span, emptied_spans, kept_spans, came_spans}
use Rattle.edit_model.specs.Attached.{is_attached, with_span, without_span, spans_of}
use Rattle.edit_model.specs.Selection.{selection_start, selection_end, is_of_selection, has_selection, with_ends, region_span, is_dropped}
use Rattle.edit_model.specs.Verdicts.{judged}

-- ---- what an edit changed

-- a span before an edit and after it
pub record Shift : Type 0 where
  pub from : Span
  pub to : Span

-- the units from `start` to `old_end` became `grown` units, and these spans went, moved and came
pub record Effect : Type 0 where
  pub start : ℕ
  pub old_end : ℕ
  pub grown : ℕ
  pub removed : List Span
  pub moved : List Shift
  pub added : List Span

-- no edit was done yet
abbrev pub no_effect : Effect
no_effect = record { start = 0; old_end = 0; grown = 0; removed = []; moved = []; added = [] }

-- an edit of spans alone, at the place 0
abbrev pub spans_effect : List Span → List Shift → List Span → Effect
spans_effect removed moved added = record { start = 0; old_end = 0; grown = 0; removed = removed; moved = moved; added = added }

-- the start or the end differs
abbrev pub has_moved : Shift → Bool
has_moved shift = not (shift.from.start == shift.to.start && shift.from.end == shift.to.end)

abbrev pub shifts_by : (Span → Span) → List Span → List Shift
shifts_by move spans = map (λ span. record { from = span; to = move span }) spans

-- the units [s, e) became n units, and these spans came
abbrev pub replaced_effect : State → ℕ → ℕ → ℕ → List Span → Effect
replaced_effect state s e n added = record {
  start = s;
  old_end = e;
  grown = n;
  removed = emptied_spans s e n state.spans;
  moved = filter has_moved (shifts_by (moved_span s e n state.units) (kept_spans s e n state.spans));
  added = added;
}

-- an attached span is one moved row, even where nothing differs, and another an added one
abbrev pub set_effect : State → Span → Effect
set_effect state span =
    if is_attached span.id state.spans
    then spans_effect [] (shifts_by (λ other. span) (spans_of span.id state.spans)) []
    else spans_effect [] [] (span ∷ [])

-- the ends of a selection that differ are moved rows, and those of a new one are added, the start first
abbrev pub select_effect : State → ℕ → ℕ → Effect
select_effect state start end =
    if has_selection state.spans
    then spans_effect [] (filter has_moved (shifts_by (with_ends start end) state.spans)) []
    else spans_effect [] [] (selection_start start ∷ selection_end end ∷ [])

-- what an edit changes where its verdict is done
unfoldable pub change_of : State → Step → Effect
change_of state (step.Replace start end incoming) =
    replaced_effect state (place start) (place end) (length incoming.units) (came_spans state (place start) (place end) incoming)
change_of state (step.Set id start end flags what) =
    set_effect state (record { id = id; start = place start; end = place end; flags = flags; what = what })
change_of state (step.Remove id) = spans_effect (spans_of id state.spans) [] []
change_of state (step.Select start end) = select_effect state (place start) (place end)
change_of state step.Deselect = spans_effect (filter is_of_selection state.spans) [] []
change_of state step.Drop = spans_effect (filter is_dropped state.spans) [] []
change_of state (step.Mark start end) = spans_effect [] [] (region_span start end ∷ [])

-- ---- the state after an edit

-- the selection's ends go to their new places, or come behind all others, the start first
abbrev pub selected_spans : ℕ → ℕ → List Span → List Span
selected_spans start end spans =
    if has_selection spans then map (with_ends start end) spans else spans ++ selection_start start ∷ selection_end end ∷ []

-- without the selection, and without the composing text
abbrev pub deselected_spans : List Span → List Span
deselected_spans spans = filter (λ span. not (is_of_selection span)) spans

abbrev pub dropped_spans : List Span → List Span
dropped_spans spans = filter (λ span. not (is_dropped span)) spans

-- the state that an edit makes where its verdict is done
unfoldable pub stepped : State → Step → State
stepped state (step.Replace start end incoming) = replaced state (place start) (place end) incoming
stepped state (step.Set id start end flags what) = record {
  units = state.units;
  spans = with_span (record { id = id; start = place start; end = place end; flags = flags; what = what }) state.spans;
}
stepped state (step.Remove id) = record { units = state.units; spans = without_span id state.spans }
stepped state (step.Select start end) = record { units = state.units; spans = selected_spans (place start) (place end) state.spans }
stepped state step.Deselect = record { units = state.units; spans = deselected_spans state.spans }
stepped state step.Drop = record { units = state.units; spans = dropped_spans state.spans }
stepped state (step.Mark start end) = record { units = state.units; spans = state.spans ++ region_span start end ∷ [] }

-- one value for an edit that was done, and another for one that changed nothing
abbrev pub on_done : {X : Type 0} → Verdict → X → X → X
on_done Done done kept = done
on_done NoChange done kept = kept
on_done Ignored done kept = kept
on_done Absent done kept = kept
on_done (Refused refusal) done kept = kept

-- the state after an edit, whatever its verdict
abbrev pub state_after : State → ℕ → Step → State
state_after state slots asked = on_done (judged state slots asked) (stepped state asked) state

-- what the last edit that was done changed
abbrev pub effect_after : State → ℕ → Step → Effect → Effect
effect_after state slots asked last = on_done (judged state slots asked) (change_of state asked) last
