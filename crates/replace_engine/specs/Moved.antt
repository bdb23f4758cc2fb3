-- Rows that a replacement moves otherwise than by the gap alone.
use Rattle.std.specs.Prelude.{ℕ, ◌≡◌, ◌&&◌, ◌==◌, Bool, false, not, List}
use Rattle.std.specs.List.{list_any}
use Rattle.std.specs.List.Sorted.{IsPermutation}
use Rattle.edit_base.specs.declared.rows.SpanRow.{SpanRow}
use Rattle.edit_model.specs.Flags.{kind_of, is_paragraph}
use Rattle.edit_model.specs.State.{Span}
use Rattle.interval_tree.specs.Answers.{orders_of, touching}

-- the span's ends stay at boundaries of paragraphs
abbrev pub is_paragraph_span : Span → Bool
is_paragraph_span span = is_paragraph (kind_of span.flags)

-- no unit goes, and those that come don't come behind the last one of a text with such a span
abbrev pub is_plain : ℕ → ℕ → ℕ → List Span → Bool
is_plain s e last spans = s == e && not (e == last && list_any is_paragraph_span spans)

-- where it isn't plain, these rows are those that touch the range
abbrev pub AreLeft : ℕ → ℕ → ℕ → List Span → List SpanRow → Type 0
AreLeft s e last spans rows = is_plain s e last spans ≡ false → IsPermutation (touching s e spans) (orders_of rows)
