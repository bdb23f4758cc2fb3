-- What came goes before what was behind.
use Rattle.std.proofs.Common.{◌≡◌, ◌∙◌, ap, drop, take, ◌++◌, ◌+◌, ◌-◌, length, List, arith}
use Rattle.span_order.specs.declared.tops.Top.{Top}
use Rattle.span_order.proofs.Turned.{grown_to, written_back}
use Rattle.span_order.proofs.raise.widen.Goals as goal

pub returns-clause-behind : goal.returns-clause-behind
returns-clause-behind c =
    let old = c.args.tops.now.items in
    let all = c.lengthen.new.tops.items in
    let at = c.args.at in
    let more = c.args.more in
    let rest = c.len-old.result - at in
    let long = c.turn.auto.tops ∙ ap length c.deref_mut.ensures.value in
    let back = written_back all c.turn.new.tops c.lengthen.new.tops.len long (omega arith) in
    let turned = c.turn.ensures ∙ ap (λ (xs : List Top). take at xs ++ (drop (at + rest) xs ++ take rest (drop at xs))) c.deref_mut.ensures.value in
    let size : c.len-old.result ≡ length old = omega arith in
    ap (drop (at + more)) (back ∙ turned ∙ ap (λ n. take at all ++ (drop (at + (n - at)) all ++ take (n - at) (drop at all))) size)
    ∙ grown_to old all at more (omega arith) c.lengthen.ensures.front c.lengthen.ensures.len
