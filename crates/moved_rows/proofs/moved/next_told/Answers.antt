-- The first that is told of.
use Rattle.std.proofs.Common.{◌<◌, subst, arith, sym, ◌∙◌}
use Rattle.moved_rows.specs.Moves.{shift_of}
use Rattle.moved_rows.proofs.Shifts.{told_first, told_passed, told_past}
use Rattle.moved_rows.proofs.moved.next_told.Goals as goal

pub returns-in-Some-clause-rows : goal.returns-in-Some-clause-rows
returns-in-Some-clause-rows c =
    let within = subst (λ n. c.loop-i.i < n) c.count-i-end.ensures.count c.loop-i-test.true in
    c.loop-i.invariant ∙ told_first c.args.moved.now c.loop-i.i (shift_of c.in-Some.row) within (sym c.in-Some.ensures)

pub loop-i-preserved : goal.loop-i-preserved
loop-i-preserved c =
    let within = subst (λ n. c.loop-i.i < n) c.count-i-end.ensures.count c.loop-i-test.true in
    c.loop-i.invariant ∙ sym (told_passed c.args.moved.now c.loop-i.i within (sym c.in_default.ensures))

pub returns-clause-rows : goal.returns-clause-rows
returns-clause-rows c =
    c.loop-i.invariant ∙ told_past c.args.moved.now c.loop-i.i (omega (arith, c.loop-i-test.false, c.count-i-end.ensures.count))
