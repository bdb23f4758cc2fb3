-- No row so far has the id.
use Rattle.std.proofs.Common.{◌≡◌, ◌<◌, ℕ, false}
use Rattle.edit_model.specs.Attached.{has_id}
use Rattle.span_table.specs.Table.{span_at, spans_of}
use Rattle.span_table.proofs.table.SpanRows.find.Given as goal

abbrev pub invariant-loop-place : goal.invariant-loop-place
invariant-loop-place l = (k : ℕ) → k < l.place → has_id l.id (span_at (spans_of l.self) k) ≡ false
