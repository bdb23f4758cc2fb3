-- The rows that come are told of alone.
use Rattle.std.proofs.Common.{◌++◌, [], ◌∷◌, ap, sym, ◌∙◌, append_assoc}
use Rattle.edit_model.specs.Changed.{spans_effect}
use Rattle.edit_model.specs.Rows.{spans_in}
use Rattle.edit_model.specs.Selection.{selection_end, selection_start}
use Rattle.edit_model.specs.State.{Span}
use Rattle.span_table.specs.Table.{spans_of}
use Rattle.span_changes.specs.Changes.{effect_of}
use Rattle.span_changes.proofs.Lists.{on_err, same_seen}
use Rattle.span_changes.proofs.Spans.{effect_from}
use Rattle.span_changes.proofs.MovedLaws.{still_tells, unmoved_tells}
use Rattle.span_changes.proofs.selecting.append_ends.Goals as goal

pub returns-in_err-reserve-clause-err : goal.returns-in_err-reserve-clause-err
returns-in_err-reserve-clause-err c =
    let still = c.reserve.ensures.still in
    let spans = same_seen c.reserve.new.self.moved.rows c.args.change.now.moved.rows c.reserve.ensures.rows still.gap still.room in
    on_err c.from_residual.result (
      c.reserve.ensures.rows,
      spans,
      effect_from _ _ _ (effect_of c.args.change.now) c.reserve.ensures.start c.reserve.ensures.old_end c.reserve.ensures.grown
          (ap spans_in c.reserve.ensures.removed) (still_tells c.args.change.now.moved c.reserve.new.self.moved still.before still.told spans)
          (ap spans_in c.reserve.ensures.added),
    )

pub returns-clause-effect : goal.returns-clause-effect
returns-clause-effect c =
    let first = c.append.ensures.further in
    let last = c.append-2.ensures.further in
    let begun = c.begin.ensures.begun in
    let start_span : Span = selection_start c.args.start in
    let end_span : Span = selection_end c.args.end in
    rw c.requires.absent
    (effect_from _ _ _ (spans_effect [] [] (start_span ∷ end_span ∷ []))
    (last.start ∙ first.start ∙ c.start.ensures.start) (last.old_end ∙ first.old_end ∙ c.start.ensures.old_end)
    (last.grown ∙ first.grown ∙ c.start.ensures.grown) (ap spans_in (last.removed ∙ first.removed ∙ c.start.ensures.removed))
    (unmoved_tells c.append-2.new.change.moved (start_span ∷ end_span ∷ []) (last.told ∙ first.told ∙ begun.told)
    (c.append-2.ensures.spans ∙ ap (λ spans. spans ++ end_span ∷ []) c.append.ensures.spans
    ∙ append_assoc (spans_of c.begin.new.self.rows) (start_span ∷ []) (end_span ∷ [])
    ∙ ap (λ spans. spans ++ start_span ∷ end_span ∷ []) (sym (last.before ∙ first.before ∙ begun.before))))
    (c.append-2.ensures.added
    ∙ ap (λ spans. spans ++ end_span ∷ []) (c.append.ensures.added ∙ ap (λ rows. spans_in rows ++ start_span ∷ []) c.start.ensures.added)))
