-- What queries answer, and the work of one.
use Rattle.std.specs.Prelude.{ℕ, ◌+◌, ◌*◌, ◌<◌, ◌≤◌, ◌^◌, List, map, filter, length, Option, position, slice_index}
use Rattle.std.specs.List.{range_with_len}
use Rattle.edit_base.specs.declared.rows.SpanRow.{SpanRow}
use Rattle.edit_model.specs.State.{Span}
use Rattle.edit_model.specs.Over.{touches}
use Rattle.edit_model.specs.Replaced.{is_emptied}
use Rattle.span_table.specs.Table.{span_at}

-- the orders of rows
abbrev pub orders_of : List SpanRow → List ℕ
orders_of rows = map (λ row. row.order) rows

-- each number is less than those behind it
abbrev pub IsRising : List ℕ → Type 0
IsRising numbers = (i j : ℕ) → i < j → j < length numbers → slice_index numbers i < slice_index numbers j

-- the places of the spans that touch a range, in order
abbrev pub touching : ℕ → ℕ → List Span → List ℕ
touching start end spans = filter (λ i. touches start end (span_at spans i)) (range_with_len 0 (length spans))

-- how many spans touch it
abbrev pub near_count : ℕ → ℕ → List Span → ℕ
near_count start end spans = length (filter (touches start end) spans)

-- the place of the first span that is emptied when the range becomes so many units
abbrev pub first_emptied : ℕ → ℕ → ℕ → List Span → Option ℕ
first_emptied start end grown spans = position (is_emptied start end grown) spans

-- the span ends no earlier than it starts
abbrev pub IsForward : Span → Type 0
IsForward span = span.start ≤ span.end

-- a query of these spans takes no more than one step for each of them, nor, where twice their number and one is below a
-- power of two, more than that power's height for each span that touches the range and one more
pub record IsWithin (start end : ℕ) (spans : List Span) (steps : ℕ) : Type 0 where
  pub each : steps ≤ length spans
  pub high : (h : ℕ) → 2 * length spans + 1 < 2 ^ (h + 1) → steps ≤ (near_count start end spans + 1) * (h + 1)
