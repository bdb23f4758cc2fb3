-- What a replacement makes of a state.
use Rattle.std.specs.Prelude.{ℕ, ◌+◌, ◌-◌, ◌++◌, ◌&&◌, ◌||◌, ◌==◌, Bool, not, List, map, filter, take, drop, length, nat_lt, nat_le}
use Rattle.edit_base.specs.declared.rows.Incoming.{Incoming}
use Rattle.edit_model.specs.State.{Span, State}
use Rattle.edit_model.specs.Flags.{kind_of, start_kind, end_kind, is_point_mark}
use Rattle.edit_model.specs.EndTable.{end_of_span}
use Rattle.edit_model.specs.Brought.{brought_spans}

-- the units before s, then these, then the units from e on
abbrev pub spliced : List ℕ → ℕ → ℕ → List ℕ → List ℕ
spliced units s e brought = take s units ++ brought ++ drop e units

-- the length that such a text has
abbrev pub spliced_length : ℕ → ℕ → ℕ → ℕ → ℕ
spliced_length length_before s e n = (length_before - (e - s)) + n

-- [s, e) covers a span that may not be empty, and isn't exactly the span or leaves nothing of it
abbrev pub is_emptied : ℕ → ℕ → ℕ → Span → Bool
is_emptied s e n span =
    is_point_mark (kind_of span.flags) && nat_lt s e && nat_le s span.start && nat_le span.end e
    && (n == 0 || nat_lt s span.start || nat_lt span.end e)

-- the span with its ends where the rule for its ends takes them
abbrev pub moved_span : ℕ → ℕ → ℕ → List ℕ → Span → Span
moved_span s e n units span = record {
  id = span.id;
  start = end_of_span span.id (start_kind (kind_of span.flags)) span.start s e n units;
  end = end_of_span span.id (end_kind (kind_of span.flags)) span.end s e n units;
  flags = span.flags;
  what = span.what;
}

-- the spans that are emptied, and those that are kept
abbrev pub emptied_spans : ℕ → ℕ → ℕ → List Span → List Span
emptied_spans s e n spans = filter (is_emptied s e n) spans

abbrev pub kept_spans : ℕ → ℕ → ℕ → List Span → List Span
kept_spans s e n spans = filter (λ span. not (is_emptied s e n span)) spans

-- the kept spans, each with its ends where they go
abbrev pub stayed_spans : State → ℕ → ℕ → ℕ → List Span
stayed_spans state s e n = map (moved_span s e n state.units) (kept_spans s e n state.spans)

-- the spans that come and are attached
abbrev pub came_spans : State → ℕ → ℕ → Incoming → List Span
came_spans state s e incoming =
    brought_spans (spliced state.units s e incoming.units) (stayed_spans state s e (length incoming.units)) s incoming

-- emptied spans go, the ends of the others move, the order of attachment stays, and the spans that come stand last
abbrev pub replaced : State → ℕ → ℕ → Incoming → State
replaced state s e incoming = record {
  units = spliced state.units s e incoming.units;
  spans = stayed_spans state s e (length incoming.units) ++ came_spans state s e incoming;
}
