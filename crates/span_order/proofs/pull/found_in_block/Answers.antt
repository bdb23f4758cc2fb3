-- A block's tops are right, and its slots have numbers.
use Rattle.std.proofs.Common.{◌<◌, length, subst, sym, ℕ, List}
use Rattle.span_order.specs.Blocks.{block_at}
use Rattle.span_order.specs.Hits.{HaveNumbers}
use Rattle.span_order.proofs.Entries.{All-block}
use Rattle.span_order.proofs.TopLists.{below_crest}
use Rattle.span_order.proofs.pull.found_in_block.Goals as goal

pub returns-then-top-asked-clause-none : goal.returns-then-top-asked-clause-none
returns-then-top-asked-clause-none g c = λ at low high.
    below_crest c.args.asked.now.ends.now (block_at c.args.order.now.blocks c.args.from.block) _ c.args.asked.now.bound
    (c.requires.topped.each c.args.from.block c.requires.block)
    c.if-top-asked.true at high

pub found_from-requires-clause-numbers : goal.found_from-requires-clause-numbers
found_from-requires-clause-numbers g c =
    let asked = c.args.asked.now in
    subst (λ (slots : List ℕ). HaveNumbers asked slots) (sym c.slots.ensures.slots)
    (All-block (λ slot. (slot < length asked.starts.now) × (slot < length asked.ends.now)) c.args.order.now.blocks c.args.from.block
    c.requires.block c.requires.numbers)

pub found_from-requires-clause-top : goal.found_from-requires-clause-top
found_from-requires-clause-top g c =
    rw c.slots.ensures.slots (c.requires.topped.each c.args.from.block c.requires.block)
