-- No block is empty.
use Rattle.std.proofs.Common.{◌<◌, ℕ, List, length, ap, subst, sym, arith}
use Rattle.span_order.proofs.Packing.{some_at}
use Rattle.span_order.proofs.order.Order.slots.Goals as goal

pub returns-clause-some : goal.returns-clause-some
returns-clause-some c =
    let P : List ℕ → Type 0 = λ xs. 0 < length xs in
    let long = ap (λ row. length row.blocks) c.self.view_is in
    subst P (sym c.as_slice.ensures.slots) (some_at c.self.inside.blocks.items c.args.block c.index.result.now c.self.invariant.packed (omega arith) c.index.ensures)
