-- The tables of verdicts of a set and of a replacement, in parts.
use Rattle.std.specs.Prelude.{ℤ, ◌++◌, ◌&&◌, ◌==◌, Bool, List, [], ◌∷◌, length, nat_lt, int_lt}
use Rattle.edit_base.specs.declared.bounds.TheConstants.Limits.{TEXT, SPANS}
use Rattle.edit_base.specs.declared.rows.Incoming.{Incoming}
use Rattle.edit_base.specs.declared.rows.NewSpan.{NewSpan}
use Rattle.edit_base.specs.declared.verdicts.Verdict.{Verdict}
use Rattle.edit_base.specs.declared.verdicts.Verdict.TheVariants.{NoChange, Ignored, Refused}
use Rattle.edit_base.specs.declared.verdicts.Refusal.TheVariants.{Order, Beyond, Below, ParagraphStart, ParagraphEnd, TooLong, SpansFull}
use Rattle.edit_model.specs.State.{Span, State}
use Rattle.edit_model.specs.Verdicts.{goes_beyond, goes_below, breaks_paragraph, is_ignored, changes_nothing, length_after, span_count_after_set, span_count_then}
use Rattle.edit_model.specs.declared.steps.Step.{Step}
use Rattle.edit_model.specs.declared.steps.Step.TheVariants as step
use Rattle.text_cut.specs.declared.cut.Cut.{Cut}
use Rattle.replace_engine.specs.declared.judging.AskedSpan.{AskedSpan}
use Rattle.replace_engine.specs.Arrivals.{arrivals, stayed}

-- the set of a span
abbrev pub set_of : AskedSpan → Step
set_of asked = step.Set asked.id asked.start asked.end asked.flags asked.what

-- behind the tests of its places
abbrev pub kind_lines : State → AskedSpan → List (Bool × Verdict)
kind_lines state asked =
    (breaks_paragraph state asked.flags asked.start, Refused ParagraphStart)
    ∷ (breaks_paragraph state asked.flags asked.end, Refused ParagraphEnd)
    ∷ (is_ignored asked.flags asked.start asked.end, Ignored)
    ∷ (nat_lt SPANS (span_count_after_set state asked.id), Refused SpansFull)
    ∷ []

-- behind the tests of its id, what and flags
abbrev pub place_lines : State → AskedSpan → List (Bool × Verdict)
place_lines state asked =
    (int_lt asked.end asked.start, Refused Order)
    ∷ (goes_beyond state asked.start asked.end, Refused Beyond)
    ∷ (goes_below asked.start asked.end, Refused Below)
    ∷ kind_lines state asked

-- ---- replacements

-- of a text that isn't too long then
abbrev pub span_lines : Cut → List Span → List NewSpan → List (Bool × Verdict)
span_lines cut attached spans =
    (cut.start == cut.end && cut.grown == 0 && length (arrivals cut (stayed cut attached) spans) == 0, NoChange)
    ∷ (nat_lt SPANS (length (stayed cut attached ++ arrivals cut (stayed cut attached) spans)), Refused SpansFull)
    ∷ []

-- behind the tests of what comes and of the places
abbrev pub exchange_lines : State → ℤ → ℤ → Incoming → List (Bool × Verdict)
exchange_lines state start end incoming =
    (changes_nothing state start end incoming, NoChange)
    ∷ (nat_lt TEXT (length_after state start end incoming), Refused TooLong)
    ∷ (nat_lt SPANS (span_count_then state start end incoming), Refused SpansFull)
    ∷ []

-- behind the tests of what comes
abbrev pub replacement_lines : State → ℤ → ℤ → Incoming → List (Bool × Verdict)
replacement_lines state start end incoming =
    (int_lt end start, Refused Order)
    ∷ (goes_beyond state start end, Refused Beyond)
    ∷ (goes_below start end, Refused Below)
    ∷ exchange_lines state start end incoming
