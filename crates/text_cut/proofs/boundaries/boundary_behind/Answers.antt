-- In an empty range no end is pulled.
use Rattle.std.proofs.Common.{◌<◌, arith}
use Rattle.edit_model.specs.Rows.{spans_in}
use Rattle.text_cut.proofs.Halved.{some_pulled}
use Rattle.text_cut.proofs.boundaries.boundary_behind.Goals as goal
use Rattle.text_cut.proofs.boundaries.boundary_behind.Goals.{else-start-end-via-then-start-end+else-pulls_one, else-start-end-via-else-start-end}

pub returns-else-start-end-clause-next : goal.returns-else-start-end-clause-next
returns-else-start-end-clause-next c = λ pulls.
    let some : c.args.start < c.args.end = some_pulled c.args.start c.args.end (spans_in c.args.rows.now) pulls in
    elim c.else-start-end.branch [
      | else-start-end-via-then-start-end+else-pulls_one w ↦ absurd (cc (w.pulls_one.ensures, w.if-pulls_one.false, pulls))
      | else-start-end-via-else-start-end w ↦ absurd (omega arith)
    ]
