-- The nearer of the next start and the next end.
use Rattle.std.proofs.Common.{min, ap, sym, ◌∙◌}
use Rattle.span_table.specs.Table.{spans_of}
use Rattle.interval_tree.proofs.QueryEdges.{edges_whole}
use Rattle.interval_tree.proofs.query.next_edge.Goals as goal

pub returns : goal.returns
returns c =
    c.min.ensures
    ∙ ap (λ first. min first c.next_end-second.result) c.next_start-first.ensures
    ∙ ap (min _) c.next_end-second.ensures
    ∙ sym (edges_whole c.args.start c.args.limit (spans_of c.args.rows.now))
