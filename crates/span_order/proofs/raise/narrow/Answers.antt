-- What turned out is cut off.
use Rattle.std.proofs.Common.{◌∙◌, ap, drop, take, ◌++◌, ◌+◌, ◌-◌, length, List, arith}
use Rattle.span_order.specs.declared.tops.Top.{Top}
use Rattle.span_order.proofs.Turned.{behind_gone, turned_out, written_back}
use Rattle.span_order.proofs.raise.narrow.Goals as goal

pub returns-clause-behind : goal.returns-clause-behind
returns-clause-behind c =
    let old = c.args.tops.now.items in
    let at = c.args.at in
    let fewer = c.args.fewer in
    let count = c.len.result - fewer in
    let long = c.turn.auto.tops ∙ ap length c.deref_mut.ensures.value in
    let back = written_back old c.turn.new.tops c.args.tops.now.len long (omega arith) in
    let turned = c.turn.ensures ∙ ap (λ (xs : List Top). take at xs ++ (drop (at + fewer) xs ++ take fewer (drop at xs))) c.deref_mut.ensures.value in
    ap (drop at) (c.truncate.ensures.items ∙ ap (take count) (back ∙ turned) ∙ turned_out old at fewer count c.requires (omega arith))
    ∙ behind_gone old (drop (at + fewer) old) at (omega arith)
