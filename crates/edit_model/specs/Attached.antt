-- Spans set and removed by id.
use Rattle.std.specs.Prelude.{ℕ, ◌++◌, ◌==◌, Bool, not, List, [], ◌∷◌, map, filter, if◌then◌else◌}
use Rattle.std.specs.List.{list_any}
use Rattle.edit_model.specs.State.{Span}

abbrev pub has_id : ℕ → Span → Bool
has_id id span = span.id == id

-- a span with this id is attached
abbrev pub is_attached : ℕ → List Span → Bool
is_attached id spans = list_any (has_id id) spans

-- the span in the place of the one with its id, or behind all others
abbrev pub with_span : Span → List Span → List Span
with_span span spans =
    if is_attached span.id spans then map (λ other. if has_id span.id other then span else other) spans
    else spans ++ span ∷ []

-- without the span of this id
abbrev pub without_span : ℕ → List Span → List Span
without_span id spans = filter (λ span. not (has_id id span)) spans

-- the span of this id, in a list of one, or none
abbrev pub spans_of : ℕ → List Span → List Span
spans_of id spans = filter (has_id id) spans
