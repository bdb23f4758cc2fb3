-- The rows and the change that an edit of spans leaves.
use Rattle.std.specs.Prelude.{ℕ, ◌≡◌, ◌+◌, ◌≤◌, List, length, min, vec_capacity}
use Rattle.span_changes.specs.declared.changes.Change.{Change}
use Rattle.edit_model.specs.State.{State}
use Rattle.span_table.specs.Table.{Rows, spans_of}
use Rattle.moved_rows.specs.Moves.{ArePlaced}

-- the state of a text and rows
abbrev pub state_with : List ℕ → Rows → State
state_with units rows = record { units = units; spans = spans_of rows }

-- the list of touched rows, and each list of a change, have room for so many rows
pub record HasRoom (count touched : ℕ) (change : Change) : Type 0 where
  pub rows : count ≤ touched
  pub removed : count ≤ vec_capacity change.removed
  pub added : count ≤ vec_capacity change.added

-- no list of a change has less room than before
pub record KeepsRoom (old new : Change) : Type 0 where
  pub removed : vec_capacity old.removed ≤ vec_capacity new.removed
  pub added : vec_capacity old.added ≤ vec_capacity new.added

-- how many rows fit where so many touched rows fit, and in each list of a change
abbrev pub span_room : ℕ → Change → ℕ
span_room touched change =
    min (min touched (length change.moved.rows.kept + change.moved.rows.spare)) (min (vec_capacity change.removed) (vec_capacity change.added))

-- the rows that stood come before those that were added, and each that is told of went to its place
pub record IsTold (change : Change) : Type 0 where
  pub stood : length change.moved.before + length change.added.items ≡ length change.moved.rows.kept
  pub placed : ArePlaced (spans_of change.moved.rows) change.moved

-- the gap that rows see stays
pub record SeesGap (old new : Rows) : Type 0 where
  pub gap : new.gap ≡ old.gap
  pub room : new.room ≡ old.room

-- an edit goes on: its numbers, the spans that went and those that stood stay, and no list has less room
pub record IsFurther (old new : Change) : Type 0 where
  pub start : new.start ≡ old.start
  pub old_end : new.old_end ≡ old.old_end
  pub grown : new.grown ≡ old.grown
  pub removed : new.removed.items ≡ old.removed.items
  pub before : new.moved.before ≡ old.moved.before
  pub told : new.moved.told ≡ old.moved.told
  pub gap : SeesGap old.moved.rows new.moved.rows
  pub lists : KeepsRoom old new
