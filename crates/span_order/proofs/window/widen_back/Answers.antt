-- The block behind the window goes into its tail.
use Rattle.std.proofs.Common.{length, ap, ◌∙◌, arith, length-append}
use Rattle.span_order.proofs.Numbers.{block_is}
use Rattle.span_order.proofs.Packing.{behind_beside, some_behind}
use Rattle.span_order.proofs.window.widen_back.Goals as goal

pub returns-clause-behind : goal.returns-clause-behind
returns-clause-behind c =
    let bs = c.args.blocks.now in
    let w = c.args.window in
    let inside = some_behind bs w.end c.size_behind-behind.result c.size_behind-behind.ensures.size c.if-behind-gt-SMALL.false in
    let here = ap length (c.as_slice.ensures.slots ∙ block_is bs w.end c.index-blocks-end.result inside c.index-blocks-end.is) in
    let long = ap length c.extend.ensures ∙ length-append w.tail c.as_slice.result.now in
    let beside = behind_beside bs w.end c.requires.packed inside in
    omega arith
