-- The slot stands in the place's block, or first in the next one.
use Rattle.std.proofs.Common.{◌≡◌, ◌+◌, length, ap, arith}
use Rattle.span_order.specs.Blocks.{block_at}
use Rattle.span_order.proofs.Numbers.{block_is, found_next, found_none, found_read, none_behind}
use Rattle.span_order.proofs.Packing.{some_at}
use Rattle.span_order.proofs.walk.slot_behind.Goals as goal

pub returns-then-place-slots : goal.returns-then-place-slots
returns-then-place-slots c =
    let slots = c.as_slice-slots.ensures.slots in
    rw slots (found_read c.args.blocks.now c.args.place.block c.args.place.index c.index-blocks-place.result (omega arith) c.index-blocks-place.is
    (omega (arith, ap length slots)))

pub first-requires : goal.first-requires
first-requires c = some_at c.args.blocks.now (c.args.place.block + 1) c.index-blocks-next.result c.requires.packed (omega arith) c.index-blocks-next.is

pub returns-then-next-blocks : goal.returns-then-next-blocks
returns-then-next-blocks c =
    let bs = c.args.blocks.now in
    let b = c.args.place.block in
    let here = ap length (block_is bs b c.index-blocks-place.result (omega arith) c.index-blocks-place.is) in
    let slots = ap length c.as_slice-slots.ensures.slots in
    let all : c.args.place.index ≡ length (block_at bs b) = omega arith in
    found_next bs b c.args.place.index c.first.result c.index-blocks-next.result (omega arith) all c.index-blocks-next.is
    (some_at bs (b + 1) c.index-blocks-next.result c.requires.packed (omega arith) c.index-blocks-next.is) c.first.ensures

pub returns-else-next-blocks : goal.returns-else-next-blocks
returns-else-next-blocks c =
    let bs = c.args.blocks.now in
    let b = c.args.place.block in
    let here = ap length (block_is bs b c.index-blocks-place.result (omega arith) c.index-blocks-place.is) in
    let slots = ap length c.as_slice-slots.ensures.slots in
    let all : c.args.place.index ≡ length (block_at bs b) = omega arith in
    found_none bs b c.args.place.index (omega arith) (omega arith) all

pub returns-then-place-blocks : goal.returns-then-place-blocks
returns-then-place-blocks c = none_behind c.args.blocks.now c.args.place.block c.args.place.index (omega arith)
