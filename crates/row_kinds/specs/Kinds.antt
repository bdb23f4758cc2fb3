-- Rows of the kinds that are looked for apart: seats of watchers, those whose ends stay at boundaries of paragraphs, and
-- those that are part of a composing text.
use Rattle.std.specs.Prelude.{ℕ, ◌≡◌, ◌<◌, ◌+◌, ◌==◌, Bool, not, List, [], ◌∷◌, filter, length, if◌then◌else◌}
use Rattle.std.specs.List.{All}
use Rattle.edit_model.specs.State.{Span}
use Rattle.edit_model.specs.Flags.{kind_of, is_composing, is_paragraph}
use Rattle.edit_model.specs.Over.{is_watch}
use Rattle.slot_lists.specs.Rising.{Rising, with_slot, without_slot}
use Rattle.span_table.specs.declared.kept.KeptRow.{KeptRow}

-- the row stands at boundaries of paragraphs
abbrev pub is_paragraph_row : KeptRow → Bool
is_paragraph_row row = is_paragraph (kind_of row.flags)

abbrev pub paragraph_count : List KeptRow → ℕ
paragraph_count kept = length (filter is_paragraph_row kept)

-- the flags of the row, or of the span, say that it is part of a composing text
abbrev pub is_composing_row : KeptRow → Bool
is_composing_row row = is_composing row.flags

abbrev pub composing_count : List Span → ℕ
composing_count spans = length (filter (λ span. is_composing span.flags) spans)

-- the row is a watcher's seat
abbrev pub is_seat_row : KeptRow → Bool
is_seat_row row = is_watch row.what

-- the slots of the rows that pass a test, of rows and their slots in order of attachment
unfoldable pub slots_where : (KeptRow → Bool) → List KeptRow → List ℕ → List ℕ
slots_where test [] slots = []
slots_where test (row ∷ kept) [] = []
slots_where test (row ∷ kept) (slot ∷ slots) = if test row then slot ∷ slots_where test kept slots else slots_where test kept slots

-- whether a slot is another one
abbrev pub is_other : ℕ → ℕ → Bool
is_other gone slot = not (slot == gone)

-- each slot is less than those behind it
abbrev pub Climbs : List ℕ → Type 0
Climbs [] = Unit {0}
Climbs (slot ∷ slots) = All (λ other. slot < other) slots × Climbs slots

-- how many rows stand at boundaries, and the slots of those that are part of a composing text and of the seats, of rows and
-- their slots
pub record IsTally (kept : List KeptRow) (slots : List ℕ) (paragraphs : ℕ) (composing seats : List ℕ) : Type 0 where
  pub counted : paragraphs ≡ paragraph_count kept
  pub composed : composing ≡ slots_where is_composing_row kept slots
  pub seated : seats ≡ slots_where is_seat_row kept slots

-- the list with a slot that comes into it, without one that goes out of it, and as it is where the slot stays in or out
abbrev pub turned : Bool → Bool → ℕ → List ℕ → List ℕ
turned was is slot slots =
    if was then (if is then slots else without_slot slot slots)
    else (if is then with_slot slot slots else slots)

-- how many rows one row in place of another adds
abbrev pub one_if : Bool → ℕ
one_if passes = if passes then 1 else 0

-- how many slots a list has room for, with those that are there
abbrev pub places_of : Rising → ℕ
places_of list = length list.slots + list.spare
