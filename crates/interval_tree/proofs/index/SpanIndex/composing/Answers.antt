-- As many spans as slots are listed are part of a composing text.
use Rattle.std.proofs.Common.{length, ap, ◌∙◌, arith}
use Rattle.row_kinds.specs.Kinds.{composing_count, is_composing_row}
use Rattle.row_kinds.proofs.KindChanges.{slots_count}
use Rattle.span_table.specs.Table.{spans_of}
use Rattle.interval_tree.proofs.IndexLaws.{slots_few}
use Rattle.interval_tree.proofs.IndexSeen.{composing_seen}
use Rattle.interval_tree.proofs.index.SpanIndex.composing.Goals as goal

pub overflow_cast-result : goal.overflow_cast-result
overflow_cast-result c =
    let rows = c.self.inside.rows in
    let few = slots_few is_composing_row rows.kept rows.slots c.count-count.ensures.placed in
    let long = c.len.ensures ∙ ap length c.self.invariant.tally.composed in
    let bound = c.count-count.ensures.bound in
    omega (arith, few, long, bound)

pub returns : goal.returns
returns c =
    let rows = c.self.inside.rows in
    c.len.ensures ∙ ap length c.self.invariant.tally.composed ∙ slots_count is_composing_row rows.kept rows.slots c.count-count.ensures.placed
    ∙ composing_seen rows.gap rows.room rows.kept ∙ ap (λ seen. composing_count (spans_of seen)) c.self.view_is
