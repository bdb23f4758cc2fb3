-- A line gives its output, and the lines before it gave theirs.
use Rattle.std.proofs.Common.{◌∙◌, map, arith}
use Rattle.editor_core.specs.Editors.{session_with}
use Rattle.replay_cli.specs.Steps.{lines_in, close_of}
use Rattle.replay_cli.proofs.LineRuns.{reached-twice, ends_behind, reached-cut, reached-whole}
use Rattle.replay_cli.proofs.player.play_lines.Goals as goal

pub loop-line-preserved : goal.loop-line-preserved
loop-line-preserved g c =
    let before = rw c.in-Some.ensures.lines at c.loop-line.invariant.1 in (
      omega (arith, c.loop-line.invariant.0, c.in-Some.ensures.shorter),
      reached-twice _ _ _ _ _ _ before
          (rw c.loop-line.invariant.4 at (c.in-Next.ensures.gives (close_of c.args.is_cut c.args.trace.now) (lines_in c.args.is_cut c.in-Some.others.now))),
      c.in-Next.ensures.quiet (λ stops. cc) ∙ c.loop-line.invariant.2,
      λ cut. c.loop-line.invariant.3 cut ∙ c.in-Some.ensures.tail cut,
      c.in-Next.ensures.setup ∙ c.loop-line.invariant.4,
      c.in-Next.ensures.slots,
    )

pub returns-in-Stop-clause-ends : goal.returns-in-Stop-clause-ends
returns-in-Stop-clause-ends g c =
    let before = rw c.in-Some.ensures.lines at c.loop-line.invariant.1 in
    let gives = rw c.loop-line.invariant.4 at (c.in-Stop.ensures.gives (close_of c.args.is_cut c.args.trace.now) (lines_in c.args.is_cut c.in-Some.others.now)) in
    ends_behind _ _ _ _ _ _ _ before gives

pub returns-then-is_cut-clause-ends : goal.returns-then-is_cut-clause-ends
returns-then-is_cut-clause-ends g c =
    let minds = map (λ b. (goal.Watcher-dyn g (b.vtable, b.value)).mind b.value) c.loop-line.shelf.items in
    ends_behind _ _ _ _ _ _ _
    (reached-cut c.args.editor.now.setup _ c.args.is_cut c.args.trace.now c.loop-line.rest.now c.loop-line.number
    (session_with c.loop-line.editor minds) _ _ c.if-is_cut.true c.loop-line.invariant.3 c.in_default.ensures.tail c.in_default.ensures.lines
    c.loop-line.invariant.1)
    (c.stop_at.ensures.ends minds (g.K.Sink.written c.loop-line.sink))

pub returns-clause-ends : goal.returns-clause-ends
returns-clause-ends g c =
    let minds = map (λ b. (goal.Watcher-dyn g (b.vtable, b.value)).mind b.value) c.loop-line.shelf.items in
    ends_behind _ _ _ _ _ _ _
    (reached-whole c.args.editor.now.setup _ c.args.is_cut c.args.trace.now c.loop-line.rest.now c.loop-line.number
    (session_with c.loop-line.editor minds) _ _ c.if-is_cut.false c.in_default.ensures.lines c.loop-line.invariant.1)
    (c.finish.ensures.ends c.loop-line.number minds)
