-- The row that goes is told of alone.
use Rattle.std.proofs.Common.{◌++◌, [], ap, ◌∙◌}
use Rattle.edit_model.specs.Attached.{spans_of as spans_with}
use Rattle.edit_model.specs.Changed.{spans_effect}
use Rattle.edit_model.specs.Rows.{spans_in}
use Rattle.span_table.specs.Table.{spans_of}
use Rattle.span_changes.proofs.MovedLaws.{begun_tells}
use Rattle.span_changes.proofs.Spans.{effect_from}
use Rattle.span_changes.proofs.setting.remove_row.Goals as goal

pub returns-clause-effect : goal.returns-clause-effect
returns-clause-effect c =
    let also = c.remove_also.ensures in
    effect_from _ _ _ (spans_effect (spans_with c.args.id (spans_of c.args.change.now.moved.rows)) [] [])
    (also.start ∙ c.start.ensures.start) (also.old_end ∙ c.start.ensures.old_end) (also.grown ∙ c.start.ensures.grown)
    (also.removed
    ∙ ap (λ rows. spans_in rows ++ spans_with c.args.id (spans_of c.start.new.self.moved.rows)) c.start.ensures.removed
    ∙ ap (λ moves. spans_with c.args.id (spans_of moves.rows)) c.start.ensures.moved)
    (begun_tells c.remove_also.new.change.moved also.begun)
    (ap spans_in (also.added ∙ c.start.ensures.added))
