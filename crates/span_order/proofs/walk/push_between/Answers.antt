-- A block's slots follow those that came.
use Rattle.std.proofs.Common.{◌≡◌, ◌+◌, ◌-◌, length, take, drop, ap, ◌∙◌, arith, append_assoc, length-append, length-drop}
use Rattle.std.specs.List.{concat}
use Rattle.std.proofs.lemmas.List.{length-take-le}
use Rattle.span_order.specs.Blocks.{block_at, number_of, start_of}
use Rattle.span_order.proofs.Numbers.{block_is, length_at, start_more, starts_rise}
use Rattle.span_order.proofs.Runs.{run_long, run_more}
use Rattle.span_order.proofs.walk.push_between.Goals as goal

pub extend_within-requires : goal.extend_within-requires
extend_within-requires c =
    let bs = c.args.blocks.now in
    let b = c.loop-block.block in
    let i = c.loop-block.index in
    let from = number_of bs c.args.from in
    let inv = c.loop-block.invariant in
    let here = ap length (c.as_slice.ensures.slots ∙ block_is bs b c.index-blocks-block.result (omega arith) c.index-blocks-block.is) in
    let whole = length_at bs b in
    let inside = inv.within in
    let order = inv.order in
    let run = run_long (concat bs) from (start_of bs b + i) order (omega arith) in
    let items = ap length inv.items ∙ length-append c.args.out.now.items (take (start_of bs b + i - from) (drop from (concat bs))) in
    let more = start_more bs b (omega arith) in
    let rise = starts_rise bs (b + 1) c.args.to.block (omega arith) in
    let rest = length-drop i c.as_slice.result.now in
    let part = length-take-le (length c.as_slice.result.now - i) (drop i c.as_slice.result.now) (omega arith) in
    let room = c.requires.room in
    let capacity = inv.capacity in
    record { room = omega arith }

pub loop-block-preserved : goal.loop-block-preserved
loop-block-preserved c =
    let bs = c.args.blocks.now in
    let b = c.loop-block.block in
    let i = c.loop-block.index in
    let from = number_of bs c.args.from in
    let inv = c.loop-block.invariant in
    let slots = c.as_slice.ensures.slots ∙ block_is bs b c.index-blocks-block.result (omega arith) c.index-blocks-block.is in
    let here = ap length slots in
    let more = start_more bs b (omega arith) in
    let next : start_of bs (b + 1) + 0 ≡ start_of bs b + length (block_at bs b) = omega arith in
    record {
      within = omega arith;
      order = omega (arith, inv.order, inv.within);
      last = λ _. omega arith;
      items = c.extend_within.ensures.items
          ∙ rw (inv.items, slots, next, run_more bs b i (length (block_at bs b)) from inv.order inv.within (omega arith)) (simp append_assoc);
      capacity = omega (arith, inv.capacity, c.extend_within.ensures.capacity);
    }

pub extend_within-requires-then-to-blocks : goal.extend_within-requires-then-to-blocks
extend_within-requires-then-to-blocks c =
    let bs = c.args.blocks.now in
    let b = c.args.to.block in
    let i = c.loop-block.index in
    let j = c.args.to.index in
    let from = number_of bs c.args.from in
    let inv = c.loop-block.invariant in
    let one : c.loop-block.block ≡ b = omega arith in
    let here = ap length (c.as_slice-then-to-blocks.ensures.slots ∙ block_is bs b c.index-blocks-to.result (omega arith) c.index-blocks-to.is) in
    let whole = length_at bs b in
    let start = ap (start_of bs) one in
    let last = inv.last one in
    let inside = c.requires.to.index in
    let order = inv.order in
    let run = run_long (concat bs) from (start_of bs c.loop-block.block + i) order (omega arith) in
    let items = ap length inv.items ∙ length-append c.args.out.now.items (take (start_of bs c.loop-block.block + i - from) (drop from (concat bs))) in
    let rest = length-drop i c.as_slice-then-to-blocks.result.now in
    let part = length-take-le (j - i) (drop i c.as_slice-then-to-blocks.result.now) (omega arith) in
    let room = c.requires.room in
    let capacity = inv.capacity in
    record { room = omega arith }

pub returns-then-to-blocks : goal.returns-then-to-blocks
returns-then-to-blocks c =
    let bs = c.args.blocks.now in
    let b = c.args.to.block in
    let i = c.loop-block.index in
    let j = c.args.to.index in
    let from = number_of bs c.args.from in
    let inv = c.loop-block.invariant in
    let one : c.loop-block.block ≡ b = omega arith in
    let start = ap (start_of bs) one in
    let last = inv.last one in
    let order = inv.order in
    let slots = c.as_slice-then-to-blocks.ensures.slots ∙ block_is bs b c.index-blocks-to.result (omega arith) c.index-blocks-to.is in
    c.extend_within-then-to-blocks.ensures.items
    ∙ rw (inv.items, slots, one, run_more bs b i j from (omega arith) last c.requires.to.index) (simp append_assoc)
