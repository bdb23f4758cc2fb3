-- The rows so far are kept, and there is room for the others.
use Rattle.std.proofs.Common.{◌≡◌, ◌≤◌, ◌+◌, take, map}
use Rattle.edit_model.specs.Rows.{spans_in}
use Rattle.span_table.specs.Table.{kept_span, spans_of}
use Rattle.interval_tree.proofs.index.SpanIndex.refill.Given as goal

abbrev pub invariant-loop-row : goal.invariant-loop-row
invariant-loop-row g l = record {
  gap : l.self.gap ≡ l.fn.self.gap;
  room : l.self.room ≡ l.fn.self.room;
  kept : l.self.kept ≡ map (kept_span l.fn.self.gap l.fn.self.room) (spans_in (take l.row-index l.rows));
  spans : spans_of l.self ≡ spans_in (take l.row-index l.rows);
  spare : l.fn.self.spare ≤ l.row-index + l.self.spare;
  ticks : l.steps ≡ l.fn.steps + l.row-index;
}
