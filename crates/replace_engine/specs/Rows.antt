-- The rows and the change that a text with spans keeps.
use Rattle.std.specs.Prelude.{ℕ, ◌≡◌, ◌+◌, List, length, if◌then◌else◌}
use Rattle.span_changes.specs.declared.changes.Change.{Change}
use Rattle.span_changes.specs.Rows.{HasRoom, IsTold, state_with}
use Rattle.edit_model.specs.State.{Span}
use Rattle.edit_model.specs.Attached.{is_attached}
use Rattle.edit_model.specs.Selection.{has_selection}
use Rattle.edit_model.specs.WellFormed.{IsWellFormed}

-- the length of the gap that the spans see, with the units of the text
abbrev pub whole : ℕ
whole = 2097152

-- what holds of every text with spans: its state is well formed, an edit of one span or all can be told, the last one
-- was, and the rows see the text's gap
pub record IsSound (units : List ℕ) (gap touched : ℕ) (change : Change) : Type 0 where
  pub formed : IsWellFormed (state_with units change.moved.rows)
  pub room : HasRoom (length change.moved.rows.kept) touched change
  pub told : IsTold change
  pub place : change.moved.rows.gap ≡ gap
  pub width : change.moved.rows.room + length units ≡ whole

-- how many spans a set of this id appends
abbrev pub appended_by_set : ℕ → List Span → ℕ
appended_by_set id spans = if is_attached id spans then 0 else 1

-- how many spans a select appends
abbrev pub appended_by_select : List Span → ℕ
appended_by_select spans = if has_selection spans then 0 else 2
