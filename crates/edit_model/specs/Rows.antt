-- Rows, and the spans that they stand for.
use Rattle.std.specs.Prelude.{ℕ, ◌≡◌, List, Some, map, slice_get}
use Rattle.edit_base.specs.declared.rows.SpanRow.{SpanRow}
use Rattle.edit_model.specs.State.{Span, State}

-- a row without its order
abbrev pub span_of : SpanRow → Span
span_of row = record { id = row.id; start = row.start; end = row.end; flags = row.flags; what = row.what }

-- the spans that rows stand for
abbrev pub spans_in : List SpanRow → List Span
spans_in rows = map span_of rows

-- the state of a text and rows
abbrev pub state_of : List ℕ → List SpanRow → State
state_of units rows = record { units = units; spans = spans_in rows }

-- the row is the one at its order among these spans
abbrev pub IsAtOrder : List Span → SpanRow → Type 0
IsAtOrder spans row = slice_get spans row.order ≡ Some (span_of row)
