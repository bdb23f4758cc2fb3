-- No row so far is emptied.
use Rattle.std.proofs.Common.{◌≡◌, ◌<◌, ℕ, false}
use Rattle.edit_model.specs.Replaced.{is_emptied}
use Rattle.span_table.specs.Table.{span_at, spans_of}
use Rattle.interval_tree.proofs.index.first_by_one.Given as goal

abbrev pub invariant-loop-place : goal.invariant-loop-place
invariant-loop-place l = (k : ℕ) → k < l.place → is_emptied l.start l.end l.grown (span_at (spans_of l.rows) k) ≡ false
