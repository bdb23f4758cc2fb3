-- Spans whose ends are pulled to a boundary when a range becomes other units.
use Rattle.std.specs.Prelude.{ℕ, ◌&&◌, ◌||◌, Bool, List}
use Rattle.std.specs.List.{list_any}
use Rattle.edit_model.specs.State.{Span}
use Rattle.edit_model.specs.Flags.{kind_of, is_paragraph}
use Rattle.edit_model.specs.EndTable.{is_pulled}

-- a paragraph span with an end that is pulled when [s, e) becomes other units
abbrev pub has_pulled_end : ℕ → ℕ → Span → Bool
has_pulled_end s e span = (is_pulled span.start s e || is_pulled span.end s e) && is_paragraph (kind_of span.flags)

-- one of these spans has such an end
abbrev pub pulls_one : ℕ → ℕ → List Span → Bool
pulls_one s e spans = list_any (has_pulled_end s e) spans
