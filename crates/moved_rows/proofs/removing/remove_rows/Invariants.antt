-- Behind the rows that are still to go, those that pass are gone.
use Rattle.std.proofs.Common.{◌≡◌, ◌≤◌, ◌<◌, ℕ, Bool, length, get_or}
use Rattle.edit_model.specs.State.{Span}
use Rattle.interval_tree.specs.Answers.{orders_of}
use Rattle.span_table.specs.Table.{no_span, spans_of}
use Rattle.moved_rows.specs.Moves.{IsBegun}
use Rattle.moved_rows.specs.Removing.{passing}
use Rattle.moved_rows.proofs.Removed.{AreLeft}
use Rattle.moved_rows.proofs.removing.remove_rows.Given as goal

abbrev pub invariant-loop-at : goal.invariant-loop-at
invariant-loop-at l = record {
  left : (test : Span → Bool) → orders_of l.rows ≡ passing test (spans_of l.initial.moved.rows)
      → AreLeft test no_span (spans_of l.initial.moved.rows) (orders_of l.rows) (spans_of l.moved.rows) l.at;
  low : (j : ℕ) → j < l.at → get_or (orders_of l.rows) j 0 < length l.moved.rows.kept;
  whole : l.at ≡ length l.rows → l.moved ≡ l.initial.moved;
  fewer : length l.moved.rows.kept ≤ length l.initial.moved.rows.kept;
  gap : l.moved.rows.gap ≡ l.initial.moved.rows.gap;
  room : l.moved.rows.room ≡ l.initial.moved.rows.room;
  spare : l.initial.moved.rows.spare ≤ l.moved.rows.spare;
  begun : IsBegun l.moved;
}
