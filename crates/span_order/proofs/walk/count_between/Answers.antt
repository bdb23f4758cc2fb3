-- What is counted is what stands before one block and not before another.
use Rattle.std.proofs.Common.{◌≡◌, ◌+◌, length, ap, arith}
use Rattle.span_order.specs.Blocks.{start_of}
use Rattle.span_order.proofs.Numbers.{block_is, length_at, numbers_rise, start_more, start_within}
use Rattle.span_order.proofs.walk.count_between.Goals as goal

pub overflow_add-count : goal.overflow_add-count
overflow_add-count c =
    let bs = c.args.blocks.now in
    let b = c.loop-block.block in
    let here = ap length (block_is bs b c.index-blocks-block.result (omega arith) c.index-blocks-block.is) in
    omega (arith, here, start_more bs b (omega arith), start_within bs (b + 1))

pub overflow_add-result : goal.overflow_add-result
overflow_add-result c =
    let bs = c.args.blocks.now in
    omega (arith, length_at bs c.args.to.block, start_within bs c.loop-block.block)

pub overflow_sub-result : goal.overflow_sub-result
overflow_sub-result c =
    let bs = c.args.blocks.now in
    let e : c.loop-block.block ≡ c.args.to.block = omega arith in
    omega (arith, ap (start_of bs) e, numbers_rise bs c.args.from.block c.args.from.index c.args.to.block c.args.to.index c.requires.order c.requires.same c.requires.to.block c.requires.from.index)

pub loop-block-preserved : goal.loop-block-preserved
loop-block-preserved c =
    let bs = c.args.blocks.now in
    let b = c.loop-block.block in
    let here = ap length (block_is bs b c.index-blocks-block.result (omega arith) c.index-blocks-block.is) in
    omega (arith, here, start_more bs b (omega arith))

pub returns : goal.returns
returns c =
    let bs = c.args.blocks.now in
    let e : c.loop-block.block ≡ c.args.to.block = omega arith in
    let rise = numbers_rise bs c.args.from.block c.args.from.index c.args.to.block c.args.to.index c.requires.order c.requires.same c.requires.to.block c.requires.from.index in
    omega (arith, ap (start_of bs) e)
