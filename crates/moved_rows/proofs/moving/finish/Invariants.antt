-- The rows so far stand where they go.
use Rattle.std.proofs.Common.{◌≡◌, ◌≤◌}
use Rattle.edit_model.specs.Replaced.{moved_span}
use Rattle.span_table.specs.Table.{spans_of}
use Rattle.moved_rows.specs.Moving.{landed_span}
use Rattle.moved_rows.proofs.Stands.{Puts}
use Rattle.text_cut.specs.Halves.{joined}
use Rattle.moved_rows.proofs.moving.finish.Given as goal

abbrev pub invariant-loop-row : goal.invariant-loop-row
invariant-loop-row l = record {
  puts : Puts (landed_span l.cut.start l.cut.end l.cut.grown) (moved_span l.cut.start l.cut.end l.cut.grown (joined l.cut.text))
      l.cut.start l.cut.end l.initial.moved.before (spans_of l.moved.rows) l.touched l.row-index;
  gap : l.moved.rows.gap ≡ l.initial.moved.rows.gap;
  room : l.moved.rows.room ≡ l.initial.moved.rows.room;
  spare : l.initial.moved.rows.spare ≤ l.moved.rows.spare;
  before : l.moved.before ≡ l.initial.moved.before;
  told : l.moved.told ≡ l.initial.moved.told;
}
