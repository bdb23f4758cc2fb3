-- The spans that were given are seen.
use Rattle.interval_tree.proofs.IndexFilled.{filled_spans}
use Rattle.edit_model.specs.Rows.{spans_in}
use Rattle.interval_tree.proofs.index.SpanIndex.set_rows.Goals as goal

pub returns-clause-spans : goal.returns-clause-spans
returns-clause-spans g c = filled_spans c.clear.new.self.gap c.clear.new.self.room _ _ c.refill.new.self.kept (spans_in c.args.rows.now)
    c.refill.ensures.gap c.refill.ensures.room c.refill.ensures.kept
