-- As many spans are part of a composing text as the region is.
use Rattle.span_table.specs.Table.{spans_of}
use Rattle.span_changes.proofs.Dropped.{region_alone}
use Rattle.span_changes.proofs.composing.is_region_alone.Goals as goal

pub returns : goal.returns
returns c =
    region_alone (spans_of c.args.rows.now) c.composing.result c.region_count.result c.composing.ensures c.region_count.ensures
