-- The spans over a range, and the next edge.
use Rattle.std.specs.Prelude.{ℕ, ◌&&◌, ◌||◌, ◌==◌, Bool, true, false, not, List, [], ◌∷◌, filter, min, nat_lt, nat_le, if◌then◌else◌}
use Rattle.std.specs.List.{flat_map}
use Rattle.edit_base.specs.declared.kinds.What.{What}
use Rattle.edit_base.specs.declared.kinds.What.TheVariants.{Tag, Face, Margin, Float, Watch, SelStart, SelEnd, Composing}
use Rattle.edit_base.specs.declared.rows.Pick.{Pick}
use Rattle.edit_base.specs.declared.rows.Pick.TheVariants.{All, Watches, Layout}
use Rattle.edit_model.specs.State.{Span}
use Rattle.edit_model.specs.Flags.{priority_of}

-- the span touches the range: they share a point
abbrev pub touches : ℕ → ℕ → Span → Bool
touches start end span = nat_le span.start end && nat_le start span.end

-- the span touches the range, and does more than touch it where neither is empty
abbrev pub lies_over : ℕ → ℕ → Span → Bool
lies_over start end span =
    touches start end span
    && (span.start == span.end || start == end || (not (span.start == end) && not (span.end == start)))

abbrev pub is_watch : What → Bool
is_watch (Tag number) = false
is_watch (Face number) = false
is_watch (Margin first rest) = false
is_watch (Float margin lines) = false
is_watch (Watch slot) = true
is_watch SelStart = false
is_watch SelEnd = false
is_watch Composing = false

abbrev pub is_layout : What → Bool
is_layout (Tag number) = false
is_layout (Face number) = true
is_layout (Margin first rest) = true
is_layout (Float margin lines) = true
is_layout (Watch slot) = false
is_layout SelStart = false
is_layout SelEnd = false
is_layout Composing = false

abbrev pub is_picked : Pick → What → Bool
is_picked All what = true
is_picked Watches what = is_watch what
is_picked Layout what = is_layout what

-- a span into a list in order: behind those of a higher priority, and before those of the same, which were attached after it
abbrev pub into : Span → List Span → List Span
into span [] = span ∷ []
into span (other ∷ others) =
    if nat_le (priority_of other.flags) (priority_of span.flags) then span ∷ other ∷ others else other ∷ into span others

-- by priority, highest first, and then in order of attachment
abbrev pub by_priority : List Span → List Span
by_priority [] = []
by_priority (span ∷ spans) = into span (by_priority spans)

-- the spans over a range that are picked, in order
unfoldable pub over : ℕ → ℕ → Pick → List Span → List Span
over start end pick spans = by_priority (filter (λ span. lies_over start end span && is_picked pick span.what) spans)

-- every place where a span starts or ends
abbrev pub edges : List Span → List ℕ
edges spans = flat_map (λ span. span.start ∷ span.end ∷ []) spans

-- the least of some places, or the limit where there is none
abbrev pub least : ℕ → List ℕ → ℕ
least limit [] = limit
least limit (place ∷ places) = min place (least limit places)

-- the least place behind this one and below the limit where a span starts or ends, else the limit
unfoldable pub next_edge : ℕ → ℕ → List Span → ℕ
next_edge after limit spans = least limit (filter (λ edge. nat_lt after edge && nat_lt edge limit) (edges spans))
