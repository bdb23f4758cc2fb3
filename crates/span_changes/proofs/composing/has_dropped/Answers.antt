-- The region is attached, or some row is counted.
use Rattle.std.proofs.Common.{◌∙◌, ltb, ap, sym}
use Rattle.span_table.specs.Table.{spans_of}
use Rattle.span_changes.proofs.Dropped.{any_dropped, dropped_region}
use Rattle.span_changes.proofs.composing.has_dropped.Goals as goal

pub returns-then-is_attached : goal.returns-then-is_attached
returns-then-is_attached c =
    c.if-is_attached.true ∙ dropped_region (spans_of c.args.rows.now) (sym c.is_attached.ensures ∙ c.if-is_attached.true)

pub returns-else-is_attached : goal.returns-else-is_attached
returns-else-is_attached c =
    any_dropped (spans_of c.args.rows.now) (ltb 0 c.composing.result)
    (sym c.is_attached.ensures ∙ c.if-is_attached.false) (ap (ltb 0) c.composing.ensures)
