-- The selection and the composing region of a text, and the text round the selection.
use Rattle.std.specs.Prelude.{ℕ, ◌+◌, ◌-◌, ◌==◌, ◌&&◌, ◌||◌, Bool, false, List, length, take, drop, min, max, nat_lt, if◌then◌else◌, Option, Some, None}
use Rattle.std.specs.Option.{option_map, option_and_then}
use Rattle.std.specs.List.{find}
use Rattle.edit_base.specs.declared.kinds.What.TheVariants.{SelStart, SelEnd, Composing}
use Rattle.edit_model.specs.State.{Span, State}
use Rattle.edit_model.specs.Flags.{is_composing}
use Rattle.edit_model.specs.Attached.{has_id, is_attached}
use Rattle.edit_model.specs.WellFormed.{composing_id, composing_flags}

-- ---- the selection

-- the spans of the selection's start and end
abbrev pub selection_start : ℕ → Span
selection_start at = record { id = 0; start = at; end = at; flags = 546; what = SelStart }

abbrev pub selection_end : ℕ → Span
selection_end at = record { id = 1; start = at; end = at; flags = 34; what = SelEnd }

-- the span stands for an end of the selection: its id is 0 or 1
abbrev pub is_of_selection : Span → Bool
is_of_selection span = nat_lt span.id 2

-- both ends are attached, or neither is
abbrev pub has_selection : List Span → Bool
has_selection spans = is_attached 0 spans

-- where its two spans stand
abbrev pub ends_at : Option Span → Option Span → Option (ℕ × ℕ)
ends_at first last = option_and_then (λ a. option_map (λ b. (a.start, b.start)) last) first

-- the selection's start and end, which may be the lesser one
abbrev pub selection : List Span → Option (ℕ × ℕ)
selection spans = ends_at (find (has_id 0) spans) (find (has_id 1) spans)

-- these are its start and end
abbrev pub are_ends : ℕ → ℕ → Option (ℕ × ℕ) → Bool
are_ends start end None = false
are_ends start end (Some range) = range.0 == start && range.1 == end

-- the span with both ends at one place
abbrev pub at_place : ℕ → Span → Span
at_place at span = record { id = span.id; start = at; end = at; flags = span.flags; what = span.what }

-- an end of the selection at its new place, and any other span as it is
abbrev pub with_ends : ℕ → ℕ → Span → Span
with_ends start end span = if has_id 0 span then at_place start span else (if has_id 1 span then at_place end span else span)

-- ---- the composing region

-- the span of the composing region
abbrev pub region_span : ℕ → ℕ → Span
region_span start end = record { id = composing_id; start = start; end = end; flags = composing_flags; what = Composing }

abbrev pub has_region : List Span → Bool
has_region spans = is_attached composing_id spans

-- the region's start and end
abbrev pub region : List Span → Option (ℕ × ℕ)
region spans = option_map (λ span. (span.start, span.end)) (find (has_id composing_id) spans)

-- the region itself, and every span whose word says that it is part of a composing text
abbrev pub is_dropped : Span → Bool
is_dropped span = has_id composing_id span || is_composing span.flags

-- ---- text round the selection

-- the lesser and the greater place of a range
abbrev pub lesser : ℕ × ℕ → ℕ
lesser range = min range.0 range.1

abbrev pub greater : ℕ × ℕ → ℕ
greater range = max range.0 range.1

-- a range where there is none
abbrev pub or_zeros : Option (ℕ × ℕ) → ℕ × ℕ
or_zeros None = (0, 0)
or_zeros (Some range) = range

-- the units from a place to another
abbrev pub stretch : List ℕ → ℕ → ℕ → List ℕ
stretch units from to = take (to - from) (drop from units)

-- so many units before the selection, or as many as there are; none without a selection
unfoldable pub text_before : State → ℕ → List ℕ
text_before state count =
    stretch state.units (lesser (or_zeros (selection state.spans)) - count) (lesser (or_zeros (selection state.spans)))

-- so many units behind the selection, or as many as there are; from 0 without a selection
unfoldable pub text_after : State → ℕ → List ℕ
text_after state count =
    stretch state.units (greater (or_zeros (selection state.spans))) (min (greater (or_zeros (selection state.spans)) + count) (length state.units))

-- the selected units, where there are some
abbrev pub units_in : List ℕ → ℕ × ℕ → Option (List ℕ)
units_in units range = if range.0 == range.1 then None else Some (stretch units (lesser range) (greater range))

unfoldable pub selected : State → Option (List ℕ)
selected state = option_and_then (units_in state.units) (selection state.spans)
