-- What is written behind the lines, and that nothing is kept but what was there.
use Rattle.std.proofs.Common.{ap, ◌∙◌}
use Rattle.trace_model.specs.Output.{check_lines}
use Rattle.replay_cli.specs.Steps.{lines_in, close_check}
use Rattle.replay_cli.proofs.CheckRuns.{ends-same, check-cut, check-whole}
use Rattle.replay_cli.proofs.checker.check_trace.Goals as goal

pub returns-in-Err-clause-ends : goal.returns-in-Err-clause-ends
returns-in-Err-clause-ends g c = λ minds.
    let close = close_check minds c.args.is_cut c.args.trace.now in
    ends-same _ _ _ _ _ _ (c.loop-line.invariant.2 minds ∙ ap (check_lines minds close c.loop-line.number c.loop-line.count) c.in-Some.ensures.lines)
    (c.in-Err.ensures.gives minds close c.loop-line.count (lines_in c.args.is_cut c.in-Some.others.now) (g.K.Sink.written c.args.sink.now))

pub returns-then-is_cut-clause-ends : goal.returns-then-is_cut-clause-ends
returns-then-is_cut-clause-ends g c = λ minds.
    ends-same _ _ _ _ _ _
    (check-cut minds _ c.args.is_cut c.args.trace.now c.loop-line.rest.now c.loop-line.number c.loop-line.count c.if-is_cut.true c.loop-line.invariant.3
    c.in_default.ensures.tail c.in_default.ensures.lines (c.loop-line.invariant.2 minds))
    (c.stop_at.ensures.ends minds (g.K.Sink.written c.args.sink.now))

pub returns-else-is_cut-clause-ends : goal.returns-else-is_cut-clause-ends
returns-else-is_cut-clause-ends g c = λ minds.
    ends-same _ _ _ _ _ _
    (check-whole minds _ c.args.is_cut c.args.trace.now c.loop-line.rest.now c.loop-line.number c.loop-line.count c.if-is_cut.false c.in_default.ensures.lines
    (c.loop-line.invariant.2 minds))
    (c.write_count.ensures.ends minds c.loop-line.number)
