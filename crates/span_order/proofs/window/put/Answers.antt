-- A block that is written over stands in the place of one.
use Rattle.std.proofs.Common.{◌≡◌, ◌+◌, ◌-◌, ◌++◌, ◌∷◌, suc, take, drop, ap, ◌∙◌, arith}
use Rattle.std.proofs.lemmas.List.{set_split}
use Rattle.span_order.proofs.window.put.Goals as goal

pub returns-then-written-end-clause-items : goal.returns-then-written-end-clause-items
returns-then-written-end-clause-items c =
    let old = c.args.blocks.now.items in
    let at = c.args.written.next in
    let e : suc at ≡ at + (c.args.written.over + 1 - c.args.written.over) = omega arith in
    set_split old at c.args.block (omega arith) ∙ ap (λ n. take at old ++ (c.args.block ∷ drop n old)) e
