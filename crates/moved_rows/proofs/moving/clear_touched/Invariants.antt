-- The rows so far are cleared.
use Rattle.std.proofs.Common.{◌≡◌, ◌≤◌}
use Rattle.edit_model.specs.State.{Span}
use Rattle.span_table.specs.Table.{spans_of}
use Rattle.moved_rows.specs.Moving.{cleared_span}
use Rattle.moved_rows.proofs.Stands.{Puts}
use Rattle.moved_rows.proofs.moving.clear_touched.Given as goal

abbrev pub invariant-loop-row : goal.invariant-loop-row
invariant-loop-row l = record {
  puts : Puts (λ (span : Span). span) (cleared_span l.start l.end) l.start l.end l.initial.moved.before (spans_of l.moved.rows) l.touched l.row-index;
  gap : l.moved.rows.gap ≡ l.initial.moved.rows.gap;
  room : l.moved.rows.room ≡ l.initial.moved.rows.room;
  spare : l.initial.moved.rows.spare ≤ l.moved.rows.spare;
  before : l.moved.before ≡ l.initial.moved.before;
  told : l.moved.told ≡ l.initial.moved.told;
}
