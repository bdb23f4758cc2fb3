-- What is logged of an edit.
use Rattle.std.specs.Prelude.{ℕ, pos, length}
use Rattle.edit_base.specs.declared.verdicts.Verdict.{Verdict}
use Rattle.edit_base.specs.declared.verdicts.Verdict.TheVariants.{Done, NoChange, Ignored, Absent, Refused}
use Rattle.edit_base.specs.declared.verdicts.Refusal.{Refusal}
use Rattle.edit_base.specs.declared.verdicts.Refusal.TheVariants.{Depth, Budget, Reserved, Slot, Order, Beyond, Below, ParagraphStart, ParagraphEnd, TooLong, SpansFull, Flags, NotInBatch, NestingFull}
use Rattle.edit_model.specs.declared.entries.LogEntry.{LogEntry}
use Rattle.edit_model.specs.declared.entries.LogEntry.TheVariants as entry
use Rattle.edit_model.specs.declared.entries.Logged.{Logged}
use Rattle.edit_model.specs.declared.steps.Step.{Step}
use Rattle.edit_model.specs.declared.steps.Step.TheVariants as step
use Rattle.edit_model.specs.State.{State}
use Rattle.edit_model.specs.Verdicts.{length_after, span_count_then, span_count_after_set, span_count_after_select, span_count_after_mark}

-- the length that would stand after an edit
abbrev pub length_of : State → Step → ℕ
length_of state (step.Replace start end incoming) = length_after state start end incoming
length_of state (step.Set id start end flags what) = length state.units
length_of state (step.Remove id) = length state.units
length_of state (step.Select start end) = length state.units
length_of state step.Deselect = length state.units
length_of state step.Drop = length state.units
length_of state (step.Mark start end) = length state.units

-- the number of spans that would stand after an edit
abbrev pub span_count_of : State → Step → ℕ
span_count_of state (step.Replace start end incoming) = span_count_then state start end incoming
span_count_of state (step.Set id start end flags what) = span_count_after_set state id
span_count_of state (step.Remove id) = length state.spans
span_count_of state (step.Select start end) = span_count_after_select state
span_count_of state step.Deselect = length state.spans
span_count_of state step.Drop = length state.spans
span_count_of state (step.Mark start end) = span_count_after_mark state

-- the number that is printed behind a refusal's name, and 0 where none is
abbrev pub refusal_number : State → Step → Refusal → ℕ
refusal_number state asked Depth = 0
refusal_number state asked Budget = 0
refusal_number state asked Reserved = 0
refusal_number state asked Slot = 0
refusal_number state asked Order = length state.units
refusal_number state asked Beyond = length state.units
refusal_number state asked Below = length state.units
refusal_number state asked ParagraphStart = 0
refusal_number state asked ParagraphEnd = 0
refusal_number state asked TooLong = length_of state asked
refusal_number state asked SpansFull = span_count_of state asked
refusal_number state asked Flags = 0
refusal_number state asked NotInBatch = 0
refusal_number state asked NestingFull = 0

abbrev pub verdict_number : State → Step → Verdict → ℕ
verdict_number state asked Done = 0
verdict_number state asked NoChange = 0
verdict_number state asked Ignored = 0
verdict_number state asked Absent = 0
verdict_number state asked (Refused refusal) = refusal_number state asked refusal

-- an edit's verdict with its number
abbrev pub logged : State → Step → Verdict → Logged
logged state asked verdict = record { verdict = verdict; number = verdict_number state asked verdict }

-- the entry of an edit as it was asked for, with what became of it; units are counted as given
abbrev pub entry_of : ℕ → Step → Logged → LogEntry
entry_of depth (step.Replace start end incoming) found = entry.Replace depth start end (length incoming.units) found
entry_of depth (step.Set id start end flags what) found = entry.Set depth id start end flags found
entry_of depth (step.Remove id) found = entry.Remove depth id found
entry_of depth (step.Select start end) found = entry.Select depth start end found
entry_of depth step.Deselect found = entry.Deselect depth found
entry_of depth step.Drop found = entry.Drop depth found
entry_of depth (step.Mark start end) found = entry.Mark depth (pos start) (pos end) found

-- a number for a refusal, and 0 for any other verdict
abbrev pub on_refusal : Verdict → ℕ → ℕ
on_refusal Done number = 0
on_refusal NoChange number = 0
on_refusal Ignored number = 0
on_refusal Absent number = 0
on_refusal (Refused refusal) number = number

-- the number behind a query's refusal is the present length
abbrev pub range_logged : State → Verdict → Logged
range_logged state verdict = record { verdict = verdict; number = on_refusal verdict (length state.units) }
