-- The row that comes is told of alone.
use Rattle.std.proofs.Common.{◌++◌, [], ◌∷◌, ap, sym, ◌∙◌, arith, refl}
use Rattle.edit_model.specs.Changed.{spans_effect}
use Rattle.edit_model.specs.Rows.{span_of, spans_in}
use Rattle.span_changes.specs.Changes.{effect_of}
use Rattle.span_changes.proofs.Lists.{on_err, on_ok, same_seen}
use Rattle.span_changes.proofs.Spans.{effect_from}
use Rattle.span_changes.proofs.MovedLaws.{still_tells, unmoved_tells}
use Rattle.span_changes.proofs.setting.append_row.Goals as goal

pub returns-in_err-reserve-clause-err : goal.returns-in_err-reserve-clause-err
returns-in_err-reserve-clause-err c =
    let still = c.reserve.ensures.still in
    let spans = same_seen c.reserve.new.self.moved.rows c.args.change.now.moved.rows c.reserve.ensures.rows still.gap still.room in
    on_err c.from_residual.result (
      c.reserve.ensures.rows,
      spans,
      effect_from _ _ _ (effect_of c.args.change.now) c.reserve.ensures.start c.reserve.ensures.old_end c.reserve.ensures.grown
          (ap spans_in c.reserve.ensures.removed) (still_tells c.args.change.now.moved c.reserve.new.self.moved still.before still.told spans)
          (ap spans_in c.reserve.ensures.added),
    )

pub returns-clause-effect : goal.returns-clause-effect
returns-clause-effect c =
    let added = on_ok c.add.result (c.add.ensures.within
    (omega (arith, c.in_ok-reserve.ensures.spare, ap (λ rows. rows.spare) c.begin.ensures.rows, ap (λ moves. moves.rows.spare) c.start.ensures.moved)))
    c.add.ensures.spans in
    let begun = c.begin.ensures.begun in
    rw c.requires.absent
    (effect_from _ _ _ (spans_effect [] [] (span_of c.args.row.now ∷ [])) c.start.ensures.start c.start.ensures.old_end c.start.ensures.grown
    (ap spans_in c.start.ensures.removed)
    (unmoved_tells c.add.new.self (span_of c.args.row.now ∷ []) (c.add.ensures.told ∙ begun.told)
    (added ∙ ap (λ spans. spans ++ span_of c.args.row.now ∷ []) (sym (c.add.ensures.before ∙ begun.before))))
    (rw (c.push_within.ensures.items, c.start.ensures.added) refl))
