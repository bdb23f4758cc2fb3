-- Neighbours hold over 32 slots together.
use Rattle.std.proofs.Common.{length, ap, arith}
use Rattle.std.specs.List.{concat}
use Rattle.span_order.proofs.Packing.{blocks_few}
use Rattle.span_order.proofs.order.Order.block_count.Goals as goal

pub returns-clause-few : goal.returns-clause-few
returns-clause-few c =
    let few = blocks_few c.self.inside.blocks.items 33 c.self.invariant.packed in
    let same = ap (λ row. length (concat row.blocks)) c.self.view_is in
    omega arith
