-- Nothing is kept.
use Rattle.std.proofs.Common.{[], arith}
use Rattle.interval_tree.proofs.IdsKept.{none_distinct}
use Rattle.interval_tree.proofs.IndexLaws.{whole_of}
use Rattle.interval_tree.proofs.index.SpanIndex.new.Goals as goal

pub invariant_of-result : goal.invariant_of-result
invariant_of-result c =
    let rows = c.in_ok-new.field-0 in
    whole_of rows c.new-2.result c.new-3.result.by_start c.new-3.result.by_end _ _ _ [] [] c.in_ok-new.ensures.ok c.in_ok-new.ensures.slots
    (c.new-3.ensures.orders rows.starts rows.ends) c.new-2.ensures.named none_distinct c.new-4.ensures.tally (omega arith) (omega arith)
