-- The selection and the composing region of a well-formed text lie in it.
use Rattle.std.proofs.Common.{◌≤◌, ℕ, Bool, true, false, List, [], ◌∷◌, length, Option, Some, None, IfSome, cond, arith}
use Rattle.std.specs.List.{AllByRecursion, find}
use Rattle.std.specs.Option.{option_map}
use Rattle.edit_model.specs.State.{Span, State}
use Rattle.edit_model.specs.Attached.{has_id}
use Rattle.edit_model.specs.Selection.{ends_at, selection, region}
use Rattle.edit_model.specs.WellFormed.{IsSpanOver, IsWellFormed, composing_id}
use Rattle.replace_engine.specs.Places.{LiesIn}

first_of_two : (P : Span → Type 0) (test : Bool) (span : Span) (others : Option Span) → P span → IfSome others P
    → IfSome (cond test (Some span) others) P
first_of_two P true span others here behind = here
first_of_two P false span others here behind = behind

over_found : (units : List ℕ) (id : ℕ) (spans : List Span) → AllByRecursion (IsSpanOver units) spans
    → IfSome (find (has_id id) spans) (IsSpanOver units)
over_found units id [] each = tt
over_found units id (span ∷ spans) each =
    first_of_two (IsSpanOver units) (has_id id span) span (find (has_id id) spans) each.0 (over_found units id spans each.1)

starts_within : (units : List ℕ) (span : Span) → IsSpanOver units span → span.start ≤ length units
starts_within units span is = omega (arith, is.ordered, is.within)

both_within : (units : List ℕ) (first last : Option Span) → IfSome first (IsSpanOver units) → IfSome last (IsSpanOver units)
    → IfSome (ends_at first last) (LiesIn units)
both_within units None last here there = tt
both_within units (Some a) None here there = tt
both_within units (Some a) (Some b) here there = (starts_within units a here, starts_within units b there)

pub selection_within : (state : State) → IsWellFormed state → IfSome (selection state.spans) (LiesIn state.units)
selection_within state formed =
    both_within state.units (find (has_id 0) state.spans) (find (has_id 1) state.spans)
    (over_found state.units 0 state.spans formed.spans) (over_found state.units 1 state.spans formed.spans)

places_within : (units : List ℕ) (found : Option Span) → IfSome found (IsSpanOver units)
    → IfSome (option_map (λ span. (span.start, span.end)) found) (LiesIn units)
places_within units None is = tt
places_within units (Some span) is = (starts_within units span is, is.within)

pub region_within : (state : State) → IsWellFormed state → IfSome (region state.spans) (LiesIn state.units)
region_within state formed =
    places_within state.units (find (has_id composing_id) state.spans) (over_found state.units composing_id state.spans formed.spans)
