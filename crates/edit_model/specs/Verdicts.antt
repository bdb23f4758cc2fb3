-- The verdict of an edit: the first line of a table that applies.
use Rattle.std.specs.Prelude.{ℕ, ℤ, pos, ◌+◌, ◌&&◌, ◌||◌, ◌==◌, Bool, false, not, List, [], ◌∷◌, length, nat_lt, int_lt, if◌then◌else◌}
use Rattle.std.specs.Ordering.{int_eq}
use Rattle.std.specs.List.{list_any}
use Rattle.edit_base.specs.declared.kinds.What.{What}
use Rattle.edit_base.specs.declared.kinds.What.TheVariants.{Tag, Face, Margin, Float, Watch, SelStart, SelEnd, Composing}
use Rattle.edit_base.specs.declared.rows.Incoming.{Incoming}
use Rattle.edit_base.specs.declared.rows.NewSpan.{NewSpan}
use Rattle.edit_base.specs.declared.verdicts.Verdict.{Verdict}
use Rattle.edit_base.specs.declared.verdicts.Verdict.TheVariants.{Done, NoChange, Ignored, Absent, Refused}
use Rattle.edit_base.specs.declared.verdicts.Refusal.TheVariants.{Reserved, Slot, Order, Beyond, Below, ParagraphStart, ParagraphEnd, TooLong, SpansFull, Flags}
use Rattle.edit_base.specs.declared.bounds.TheConstants.Limits.{TEXT, SPANS}
use Rattle.edit_model.specs.State.{State, text_end, place}
use Rattle.edit_model.specs.Flags.{is_bad, kind_of, is_point_mark, is_paragraph}
use Rattle.edit_model.specs.Boundaries.{is_boundary}
use Rattle.edit_model.specs.Replaced.{spliced_length, came_spans, replaced}
use Rattle.edit_model.specs.Attached.{has_id, is_attached}
use Rattle.edit_model.specs.WellFormed.{is_kept_what}
use Rattle.edit_model.specs.Over.{is_watch}
use Rattle.edit_model.specs.Selection.{has_selection, selection, are_ends, is_dropped}
use Rattle.edit_model.specs.declared.steps.Step.{Step}
use Rattle.edit_model.specs.declared.steps.Step.TheVariants as step

-- the first verdict whose test holds, and `done` where none does
abbrev pub first_of : List (Bool × Verdict) → Verdict
first_of [] = Done
first_of (line ∷ lines) = if line.0 then line.1 else first_of lines

-- ---- tests

-- an id that is kept for the selection or the composing region
abbrev pub is_kept_id : ℕ → Bool
is_kept_id id = nat_lt id 3

-- another span watches for this slot
abbrev pub watches : ℕ → What → Bool
watches slot (Tag number) = false
watches slot (Face number) = false
watches slot (Margin first rest) = false
watches slot (Float margin lines) = false
watches slot (Watch other) = other == slot
watches slot SelStart = false
watches slot SelEnd = false
watches slot Composing = false

-- a watch span without a slot of its own
abbrev pub lacks_slot : State → ℕ → ℕ → What → Bool
lacks_slot state slots id (Tag number) = false
lacks_slot state slots id (Face number) = false
lacks_slot state slots id (Margin first rest) = false
lacks_slot state slots id (Float margin lines) = false
lacks_slot state slots id (Watch slot) =
    not (nat_lt slot slots) || list_any (λ span. not (has_id id span) && watches slot span.what) state.spans
lacks_slot state slots id SelStart = false
lacks_slot state slots id SelEnd = false
lacks_slot state slots id Composing = false

-- one of the places lies behind the text
abbrev pub goes_beyond : State → ℤ → ℤ → Bool
goes_beyond state start end = int_lt (text_end state) start || int_lt (text_end state) end

-- one of the places lies before the text
abbrev pub goes_below : ℤ → ℤ → Bool
goes_below start end = int_lt start (pos 0) || int_lt end (pos 0)

-- a paragraph span at a place that is no boundary
abbrev pub breaks_paragraph : State → ℕ → ℤ → Bool
breaks_paragraph state flags at = is_paragraph (kind_of flags) && not (is_boundary state.units (place at))

-- an incoming span that a replacement may not bring: its id or its what is kept, or it would watch
abbrev pub is_reserved : NewSpan → Bool
is_reserved span = is_kept_id span.id || is_kept_what span.what || is_watch span.what

abbrev pub brings_reserved : Incoming → Bool
brings_reserved incoming = list_any is_reserved incoming.spans

abbrev pub brings_bad_flags : Incoming → Bool
brings_bad_flags incoming = list_any (λ span. is_bad span.flags) incoming.spans

-- nothing goes, no unit comes, and every incoming span is skipped
abbrev pub changes_nothing : State → ℤ → ℤ → Incoming → Bool
changes_nothing state start end incoming =
    int_eq start end && length incoming.units == 0 && length (came_spans state (place start) (place end) incoming) == 0

-- a span that may not be empty, and would be
abbrev pub is_ignored : ℕ → ℤ → ℤ → Bool
is_ignored flags start end = is_point_mark (kind_of flags) && int_eq start end

-- the length that would stand after a replacement
abbrev pub length_after : State → ℤ → ℤ → Incoming → ℕ
length_after state start end incoming = spliced_length (length state.units) (place start) (place end) (length incoming.units)

-- the number of spans that would stand after a replacement
abbrev pub span_count_then : State → ℤ → ℤ → Incoming → ℕ
span_count_then state start end incoming = length (replaced state (place start) (place end) incoming).spans

-- the number of spans that would stand after a set
abbrev pub span_count_after_set : State → ℕ → ℕ
span_count_after_set state id = if is_attached id state.spans then length state.spans else length state.spans + 1

-- the selection stands at these places already
abbrev pub is_selected : State → ℤ → ℤ → Bool
is_selected state start end = are_ends (place start) (place end) (selection state.spans)

-- the number of spans that would stand after a select: two more where there is no selection
abbrev pub span_count_after_select : State → ℕ
span_count_after_select state = if has_selection state.spans then length state.spans else length state.spans + 2

-- the number of spans that would stand with a composing region
abbrev pub span_count_after_mark : State → ℕ
span_count_after_mark state = length state.spans + 1

-- there is neither a composing region nor a span of a composing text
abbrev pub drops_nothing : State → Bool
drops_nothing state = not (list_any is_dropped state.spans)

-- ---- tables

abbrev pub replace_lines : State → ℤ → ℤ → Incoming → List (Bool × Verdict)
replace_lines state start end incoming =
    (brings_reserved incoming, Refused Reserved)
    ∷ (brings_bad_flags incoming, Refused Flags)
    ∷ (int_lt end start, Refused Order)
    ∷ (goes_beyond state start end, Refused Beyond)
    ∷ (goes_below start end, Refused Below)
    ∷ (changes_nothing state start end incoming, NoChange)
    ∷ (nat_lt TEXT (length_after state start end incoming), Refused TooLong)
    ∷ (nat_lt SPANS (span_count_then state start end incoming), Refused SpansFull)
    ∷ []

abbrev pub set_lines : State → ℕ → ℕ → ℤ → ℤ → ℕ → What → List (Bool × Verdict)
set_lines state slots id start end flags what =
    (is_kept_id id || is_kept_what what, Refused Reserved)
    ∷ (lacks_slot state slots id what, Refused Slot)
    ∷ (is_bad flags, Refused Flags)
    ∷ (int_lt end start, Refused Order)
    ∷ (goes_beyond state start end, Refused Beyond)
    ∷ (goes_below start end, Refused Below)
    ∷ (breaks_paragraph state flags start, Refused ParagraphStart)
    ∷ (breaks_paragraph state flags end, Refused ParagraphEnd)
    ∷ (is_ignored flags start end, Ignored)
    ∷ (nat_lt SPANS (span_count_after_set state id), Refused SpansFull)
    ∷ []

abbrev pub remove_lines : State → ℕ → List (Bool × Verdict)
remove_lines state id =
    (is_kept_id id, Refused Reserved)
    ∷ (not (is_attached id state.spans), Absent)
    ∷ []

-- a select needs no order
abbrev pub select_lines : State → ℤ → ℤ → List (Bool × Verdict)
select_lines state start end =
    (goes_beyond state start end, Refused Beyond)
    ∷ (goes_below start end, Refused Below)
    ∷ (is_selected state start end, NoChange)
    ∷ (nat_lt SPANS (span_count_after_select state), Refused SpansFull)
    ∷ []

abbrev pub deselect_lines : State → List (Bool × Verdict)
deselect_lines state = (not (has_selection state.spans), Absent) ∷ []

abbrev pub drop_lines : State → List (Bool × Verdict)
drop_lines state = (drops_nothing state, NoChange) ∷ []

-- a composing region may not be empty
abbrev pub mark_lines : State → ℕ → ℕ → List (Bool × Verdict)
mark_lines state start end =
    (goes_beyond state (pos start) (pos end), Refused Beyond)
    ∷ (start == end, Ignored)
    ∷ (nat_lt SPANS (span_count_after_mark state), Refused SpansFull)
    ∷ []

-- the verdict of an edit that isn't nested, its incoming text being filtered already, with so many watchers loaded
unfoldable pub judged : State → ℕ → Step → Verdict
judged state slots (step.Replace start end incoming) = first_of (replace_lines state start end incoming)
judged state slots (step.Set id start end flags what) = first_of (set_lines state slots id start end flags what)
judged state slots (step.Remove id) = first_of (remove_lines state id)
judged state slots (step.Select start end) = first_of (select_lines state start end)
judged state slots step.Deselect = first_of (deselect_lines state)
judged state slots step.Drop = first_of (drop_lines state)
judged state slots (step.Mark start end) = first_of (mark_lines state start end)

-- ---- queries

-- a query's range is refused as an edit's is
abbrev pub range_lines : State → ℤ → ℤ → List (Bool × Verdict)
range_lines state start end =
    (int_lt end start, Refused Order)
    ∷ (goes_beyond state start end, Refused Beyond)
    ∷ (goes_below start end, Refused Below)
    ∷ []

-- the verdict on a query's range, done where the query is answered
unfoldable pub judged_range : State → ℤ → ℤ → Verdict
judged_range state start end = first_of (range_lines state start end)
