-- The table of verdicts of a select, in part.
use Rattle.std.specs.Prelude.{ℕ, Bool, List, [], ◌∷◌, nat_lt}
use Rattle.edit_base.specs.declared.bounds.TheConstants.Limits.{SPANS}
use Rattle.edit_base.specs.declared.verdicts.Verdict.{Verdict}
use Rattle.edit_base.specs.declared.verdicts.Verdict.TheVariants.{NoChange, Refused}
use Rattle.edit_base.specs.declared.verdicts.Refusal.TheVariants.{SpansFull}
use Rattle.edit_model.specs.State.{State}
use Rattle.edit_model.specs.Selection.{are_ends, selection}
use Rattle.edit_model.specs.Verdicts.{span_count_after_select}

-- behind the tests of its places
abbrev pub selection_lines : ℕ → ℕ → State → List (Bool × Verdict)
selection_lines start end state =
    (are_ends start end (selection state.spans), NoChange)
    ∷ (nat_lt SPANS (span_count_after_select state), Refused SpansFull)
    ∷ []
