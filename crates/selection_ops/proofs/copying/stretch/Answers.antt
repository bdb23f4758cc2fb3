use Rattle.std.proofs.Common.{ap, take, ◌-◌, arith}
use Rattle.std.proofs.lemmas.Grind.{common_steps}
use Rattle.selection_ops.proofs.Taken.{taken}
use Rattle.selection_ops.proofs.copying.stretch.Goals as goal

pub returns : goal.returns
returns c =
    let rest = c.from-rest.result in
    let count = c.args.to - c.args.from in
    let joins = taken count rest.left.now rest.right.now in
    let whole = ap (λ units. take count units) c.from-rest.ensures in
    grind (arith, common_steps)
