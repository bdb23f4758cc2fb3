-- Where ends go when a range becomes other units, by way of a gap at the range's end.
use Rattle.std.specs.Prelude.{ℕ, ◌≡◌, ◌<◌, ◌≤◌, ◌&&◌, ◌==◌, Bool, true, List, length, nat_le, if◌then◌else◌}
use Rattle.std.specs.List.{All, Contains}
use Rattle.edit_base.specs.declared.rows.SpanRow.{SpanRow}
use Rattle.edit_model.specs.Flags.{is_paragraph, kind_of}
use Rattle.edit_model.specs.State.{Span}
use Rattle.edit_model.specs.Over.{touches}
use Rattle.edit_model.specs.Rows.{span_of}
use Rattle.interval_tree.specs.Answers.{IsForward, orders_of}
use Rattle.span_table.specs.Numbers.{closed, ends_behind, pushed, starts_behind}
use Rattle.span_table.specs.Table.{span_at}

-- an end that stands in [s, e] goes to the end of the range on its side
abbrev pub cleared : ℕ → ℕ → Bool → ℕ → ℕ
cleared s e points place = if nat_le s place && nat_le place e then (if points then e else s) else place

abbrev pub cleared_span : ℕ → ℕ → Span → Span
cleared_span s e span = record {
  id = span.id;
  start = cleared s e (starts_behind span.flags) span.start;
  end = cleared s e (ends_behind span.flags) span.end;
  flags = span.flags;
  what = span.what;
}

-- where an end stands when the range is cleared, its units are gone, and n units came
abbrev pub landed : ℕ → ℕ → ℕ → Bool → ℕ → ℕ
landed s e n points place = pushed s n points (closed s e (cleared s e points place))

abbrev pub landed_span : ℕ → ℕ → ℕ → Span → Span
landed_span s e n span = record {
  id = span.id;
  start = landed s e n (starts_behind span.flags) span.start;
  end = landed s e n (ends_behind span.flags) span.end;
  flags = span.flags;
  what = span.what;
}

-- it ends no earlier than it starts, and in a text of this length
pub record IsSpanWithin (last : ℕ) (span : Span) : Type 0 where
  pub ordered : IsForward span
  pub within : span.end ≤ last

-- these rows are those that touch a range, and each is the span at its order
pub record AreTouched (s e : ℕ) (spans : List Span) (rows : List SpanRow) : Type 0 where
  pub within : All (λ row. row.order < length spans) rows
  pub read : All (λ row. span_at spans row.order ≡ span_of row) rows
  pub touch : All (λ row. touches s e (span_of row) ≡ true) rows
  pub all : (i : ℕ) → i < length spans → touches s e (span_at spans i) ≡ true → Contains (orders_of rows) i

-- ---- units that come where none go

-- units come behind the last one, and the span's ends stay at boundaries
abbrev pub is_appended : ℕ → ℕ → Span → Bool
is_appended place last span = place == last && is_paragraph (kind_of span.flags)
