-- How the rows that stood at an edit moved, read as it is asked for.
use Rattle.std.specs.Prelude.{ℕ, ◌≡◌, ◌<◌, ◌≤◌, ◌-◌, ◌==◌, ◌&&◌, ◌||◌, nat_lt, Bool, false, Option, Some, None, List, map, filter, length, filter_map, slice_get, slice_index_or, if◌then◌else◌}
use Rattle.std.specs.List.{All, range_with_len}
use Rattle.edit_model.specs.State.{Span}
use Rattle.edit_model.specs.Changed.{Shift, has_moved, shifts_by}
use Rattle.edit_model.specs.Rows.{span_of}
use Rattle.span_table.specs.declared.kept.KeptRow.{KeptRow}
use Rattle.span_table.specs.Table.{AreNumbers, Rows, kept_at, no_row, seen, span_at, spans_of}
use Rattle.moved_rows.specs.declared.moved.MovedRow.{MovedRow}
use Rattle.moved_rows.specs.declared.moved.OldRow.{OldRow}

-- the rows, the spans that stood as the last edit began, and the place of the row that a set told of
pub record Moves : Type 0 where
  pub rows : Rows
  pub before : List Span
  pub told : Option ℕ

-- ---- what a clause doesn't see

-- no note
abbrev pub no_old : OldRow
no_old = record { stamp = 0; row = no_row }

-- the row that was noted with this stamp, else the one that stands
abbrev pub noted : OldRow → KeptRow → ℕ → KeptRow
noted old row stamp = if old.stamp == stamp then old.row else row

abbrev pub noted_at : List KeptRow → List OldRow → ℕ → ℕ → KeptRow
noted_at kept olds stamp i = noted (slice_index_or olds i no_old) (kept_at kept i) stamp

-- the spans that stood as the edit with this stamp began, with the gap's place and length of then
unfoldable pub befores : List KeptRow → List OldRow → ℕ → ℕ → ℕ → ℕ → List Span
befores kept olds stamp gap room stood = map (λ i. seen gap room (noted_at kept olds stamp i)) (range_with_len 0 stood)

-- no note has a later stamp
abbrev pub AreStamped : ℕ → List OldRow → Type 0
AreStamped stamp olds = All (λ old. old.stamp ≤ stamp) olds

-- each note has an earlier one
abbrev pub AreEarlier : ℕ → List OldRow → Type 0
AreEarlier stamp olds = All (λ old. old.stamp < stamp) olds

-- a note for each row, none of a later edit, and those that stood are kept with numbers
pub record AreNoted (kept : List KeptRow) (olds : List OldRow) (stamp gap room stood : ℕ) : Type 0 where
  pub long : length olds ≡ length kept
  pub within : stood ≤ length kept
  pub stamps : AreStamped stamp olds
  pub numbers : (i : ℕ) → i < stood → AreNumbers gap room (noted_at kept olds stamp i)

-- ---- how the rows moved

-- nothing changed since
pub record IsBegun (moves : Moves) : Type 0 where
  pub before : moves.before ≡ spans_of moves.rows
  pub told : moves.told ≡ None

-- the spans of a row before an edit and after it
abbrev pub shift_of : MovedRow → Shift
shift_of row = record { from = span_of row.from; to = span_of row.to }

-- the span at a place, before the edit and after it
abbrev pub shift_at : Moves → ℕ → Shift
shift_at moves i = record { from = span_at moves.before i; to = span_at (spans_of moves.rows) i }

-- a set told of the row at this place
abbrev pub is_set : Option ℕ → ℕ → Bool
is_set None i = false
is_set (Some place) i = place == i

-- how the row at a place of those that stood moved, or none where nothing is to tell
abbrev pub told_at : Moves → ℕ → Option Shift
told_at moves i =
    if nat_lt i (length moves.before) && (has_moved (shift_at moves i) || is_set moves.told i) then Some (shift_at moves i) else None

-- how the rows moved that are told of, from a place on, in their order
unfoldable pub told_from : Moves → ℕ → List Shift
told_from moves place = filter_map (told_at moves) (range_with_len place (length moves.before - place))

-- how the rows moved that are told of, in their order
unfoldable pub moved_of : Moves → List Shift
moved_of moves = filter_map (told_at moves) (range_with_len 0 (length moves.before))

-- the spans that a function moves, before and after it
abbrev pub moved_shifts : (Span → Span) → List Span → List Shift
moved_shifts move spans = filter has_moved (shifts_by move spans)

-- each row that is told of went to the span at its place
abbrev pub ArePlaced : List Span → Moves → Type 0
ArePlaced spans moves = (i : ℕ) (shift : Shift) → told_at moves i ≡ Some shift → slice_get spans i ≡ Some shift.to

-- what stood, what is told of and the gap stay
pub record IsStill (old new : Moves) : Type 0 where
  pub before : new.before ≡ old.before
  pub told : new.told ≡ old.told
  pub gap : new.rows.gap ≡ old.rows.gap
  pub room : new.rows.room ≡ old.rows.room
