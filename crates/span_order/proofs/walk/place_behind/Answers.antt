-- Where a place stands at its block's end, there is a next block.
use Rattle.std.proofs.Common.{◌+◌, length, ap, inl, inr, arith}
use Rattle.std.proofs.lemmas.Bool.{cases_lt}
use Rattle.span_order.proofs.Numbers.{at_end, block_is, inside_where_some, start_all}
use Rattle.span_order.proofs.Packing.{packed_at}
use Rattle.span_order.proofs.walk.place_behind.Goals as goal

pub returns-else-place-len-clause-place : goal.returns-else-place-len-clause-place
returns-else-place-len-clause-place c =
    let bs = c.args.blocks.now in
    let b = c.args.place.block in
    let inside = inside_where_some bs b c.args.place.index c.requires.place.index c.requires.some in
    let here = ap length (block_is bs b c.index-blocks-place.result inside c.index-blocks-place.is) in
    let ends = at_end bs b c.args.place.index inside (omega arith) in
    elim (cases_lt (b + 1) (length bs)) [
      | inl more ↦ (let next = (packed_at bs (b + 1) c.requires.packed more).some in record { block = omega arith; index = omega arith })
      | inr last ↦ (let all = start_all bs (b + 1) last in absurd (omega (arith, ends)))
    ]

pub returns-else-place-len-clause-number : goal.returns-else-place-len-clause-number
returns-else-place-len-clause-number c =
    let bs = c.args.blocks.now in
    let b = c.args.place.block in
    let inside = inside_where_some bs b c.args.place.index c.requires.place.index c.requires.some in
    let here = ap length (block_is bs b c.index-blocks-place.result inside c.index-blocks-place.is) in
    let ends = at_end bs b c.args.place.index inside (omega arith) in
    omega arith
