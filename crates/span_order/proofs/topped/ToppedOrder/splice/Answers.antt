-- There are places for the tops of all blocks.
use Rattle.std.proofs.Common.{ℕ, List, length, ap, ◌∙◌, arith}
use Rattle.std.specs.List.{concat}
use Rattle.span_order.specs.Topped.{ToppedRow, spliced}
use Rattle.span_order.proofs.Entries.{place_within}
use Rattle.span_order.proofs.Numbers.{numbers_rise}
use Rattle.span_order.proofs.Splices.{length_spliced}
use Rattle.span_order.proofs.topped.ToppedOrder.splice.Goals as goal

pub invariant_of-self : goal.invariant_of-self
invariant_of-self c =
    let bs = c.args.self.now.blocks in
    let from = c.args.from in
    let to = c.args.to in
    let slots = c.args.slots.now in
    let blocks = ap (λ (row : ToppedRow). row.blocks) c.self.view_is in
    let count = ap (λ (row : ToppedRow). length (concat row.blocks)) c.self.view_is in
    let spare = ap (λ (row : ToppedRow). row.spare) c.self.view_is in
    let low = place_within bs from c.requires.from in
    let high = place_within bs to c.requires.to in
    let rise = numbers_rise bs from.block from.index to.block to.index c.requires.order c.requires.same c.requires.to.block c.requires.from.index in
    let all = ap length (c.splice_raised.ensures.all ∙ ap (λ (old : List (List ℕ)). spliced old from to slots) blocks) in
    let long = length_spliced bs from to slots low high in
    let room = c.self.invariant.room in
    let more = c.splice_raised.ensures.capacity in
    record {
      long = c.splice_raised.ensures.topped.long;
      room = omega arith;
    }
