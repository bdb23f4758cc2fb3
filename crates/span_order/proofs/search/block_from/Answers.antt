-- A block holds some slots.
use Rattle.std.proofs.Common.{arith}
use Rattle.span_order.proofs.Packing.{some_at}
use Rattle.span_order.proofs.search.block_from.Goals as goal

pub first-requires : goal.first-requires
first-requires c = some_at c.args.blocks.now _ _ c.requires.packed (omega arith) c.index-blocks-middle.is
