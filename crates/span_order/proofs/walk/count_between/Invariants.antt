-- The slots of the blocks so far are counted.
use Rattle.std.proofs.Common.{◌≡◌, ◌+◌}
use Rattle.span_order.specs.Blocks.{start_of}
use Rattle.span_order.proofs.walk.count_between.Given as goal

abbrev pub invariant-loop-block : goal.invariant-loop-block
invariant-loop-block l = start_of l.blocks l.from.block + l.count ≡ start_of l.blocks l.block
