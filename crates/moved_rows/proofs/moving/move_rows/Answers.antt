-- Cleared, closed, grown and finished.
use Rattle.std.proofs.Common.{◌+◌, ◌<◌, length, map, arith, subst, sym, ap, ◌∙◌}
use Rattle.std.specs.List.{All}
use Rattle.std.proofs.lemmas.List.{length-append}
use Rattle.edit_model.specs.Replaced.{moved_span}
use Rattle.span_table.specs.Numbers.{bound}
use Rattle.span_table.specs.Table.{IsClearOf, HasRoomFor, closed_span, pushed_span, spans_of}
use Rattle.moved_rows.specs.Moves.{moved_shifts}
use Rattle.moved_rows.specs.Moving.{AreTouched, landed_span}
use Rattle.moved_rows.proofs.Landed.{all_clear, all_fit, all_landed}
use Rattle.moved_rows.proofs.Shifts.{moved_only}
use Rattle.moved_rows.proofs.Stands.{are_touched}
use Rattle.text_cut.specs.Halves.{joined}
use Rattle.moved_rows.proofs.moving.move_rows.Goals as goal

pub clear_touched-requires-clause-touched : goal.clear_touched-requires-clause-touched
clear_touched-requires-clause-touched c =
    are_touched _ _ c.args.moved.now.before c.args.touched.now c.requires.touched c.requires.orders

pub closed-requires-clause-clear : goal.closed-requires-clause-clear
closed-requires-clause-clear c =
    let cut = c.args.cut.now in
    let done = c.clear_touched.ensures in
    subst (λ gap. All (IsClearOf cut.start gap) (spans_of c.clear_touched.new.moved.rows)) (sym (done.gap ∙ c.requires.gap))
    (subst (All (IsClearOf cut.start cut.end)) (sym done.spans) (all_clear cut.start cut.end c.args.moved.now.before cut.ordered))

pub typed-requires-clause-fits : goal.typed-requires-clause-fits
typed-requires-clause-fits c =
    let cut = c.args.cut.now in
    let done = c.clear_touched.ensures in
    let last = length (joined cut.text) in
    let text = length-append cut.text.left.now cut.text.right.now in
    let fits : last + cut.grown < bound = omega (arith, text, cut.text.short, cut.short, cut.ordered, cut.within) in
    subst (All (HasRoomFor cut.grown))
    (sym (c.closed.ensures.spans ∙ ap (λ gap. map (closed_span cut.start gap) (spans_of c.clear_touched.new.moved.rows)) (done.gap ∙ c.requires.gap)
    ∙ ap (map (closed_span cut.start cut.end)) done.spans))
    (all_fit cut.start cut.end cut.grown last c.args.moved.now.before cut.ordered cut.within fits c.requires.over)

pub finish-requires-clause-touched : goal.finish-requires-clause-touched
finish-requires-clause-touched c =
    let cut = c.args.cut.now in
    subst (λ before. AreTouched cut.start cut.end before c.args.touched.now)
    (sym (c.typed.ensures.before ∙ c.closed.ensures.before ∙ c.clear_touched.ensures.before))
    (are_touched cut.start cut.end c.args.moved.now.before c.args.touched.now c.requires.touched c.requires.orders)

pub finish-requires-clause-spans : goal.finish-requires-clause-spans
finish-requires-clause-spans c =
    let cut = c.args.cut.now in
    let done = c.clear_touched.ensures in
    c.typed.ensures.spans
    ∙ ap (λ gap. map (pushed_span gap cut.grown) (spans_of c.closed.new.self.rows)) c.closed.ensures.gap
    ∙ ap (map (pushed_span cut.start cut.grown))
    (c.closed.ensures.spans ∙ ap (λ gap. map (closed_span cut.start gap) (spans_of c.clear_touched.new.moved.rows)) (done.gap ∙ c.requires.gap)
    ∙ ap (map (closed_span cut.start cut.end)) done.spans)
    ∙ all_landed cut.start cut.end cut.grown c.args.moved.now.before
    ∙ ap (map (landed_span cut.start cut.end cut.grown)) (sym (c.typed.ensures.before ∙ c.closed.ensures.before ∙ done.before))

pub returns-clause-moved : goal.returns-clause-moved
returns-clause-moved c =
    let cut = c.args.cut.now in
    let move = moved_span cut.start cut.end cut.grown (joined cut.text) in
    moved_only c.finish.new.moved move
    (c.finish.ensures.told ∙ c.typed.ensures.told ∙ c.closed.ensures.told ∙ c.clear_touched.ensures.told ∙ c.requires.begun.told)
    (c.finish.ensures.spans ∙ ap (map move) (sym c.finish.ensures.before))
    ∙ ap (moved_shifts move) (c.finish.ensures.before ∙ c.typed.ensures.before ∙ c.closed.ensures.before ∙ c.clear_touched.ensures.before)
