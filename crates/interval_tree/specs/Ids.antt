-- The ids of rows.
use Rattle.std.specs.Prelude.{ℕ, ◌==◌, Bool, List, map}
use Rattle.std.specs.List.{IsDistinct}
use Rattle.edit_base.specs.declared.rows.SpanRow.{SpanRow}
use Rattle.span_table.specs.declared.kept.KeptRow.{KeptRow}

abbrev pub same_number : ℕ → ℕ → Bool
same_number m n = m == n

abbrev pub ids_of : List KeptRow → List ℕ
ids_of kept = map (λ row. row.id) kept

-- no id stands twice
abbrev pub HaveDistinctIds : List KeptRow → Type 0
HaveDistinctIds kept = IsDistinct same_number (ids_of kept)

abbrev pub ids_given : List SpanRow → List ℕ
ids_given rows = map (λ row. row.id) rows
