-- What is passed by in a block is so in the list.
use Rattle.std.proofs.Common.{length, arith, inl, inr}
use Rattle.std.proofs.lemmas.Bool.{cases_lt}
use Rattle.span_order.specs.Blocks.{block_at, number_of}
use Rattle.span_order.proofs.Entries.{number_next}
use Rattle.span_order.proofs.HitLists.{before_in_block}
use Rattle.span_order.proofs.pull.found_from_place.Goals as goal

pub returns-in-Some-clause-passed : goal.returns-in-Some-clause-passed
returns-in-Some-clause-passed g c = λ at low high.
    let bs = c.args.order.now.blocks in
    let place = c.loop-at.at in
    let there = c.in-Some.ensures.there in
    elim (cases_lt at (number_of bs place)) [
      | inl before ↦ c.loop-at.invariant.before at low before
      | inr here ↦ before_in_block c.args.asked.now bs place.block place.index c.in-Some.index (omega arith) (omega arith)
          c.in-Some.ensures.passed at here high
    ]

pub loop-at-preserved : goal.loop-at-preserved
loop-at-preserved g c =
    let bs = c.args.order.now.blocks in
    let place = c.loop-at.at in
    let next = number_next bs place.block (omega arith) in
    let index = c.loop-at.invariant.place.index in
    record {
      place = record { block = omega arith; index = omega arith };
      before = λ at low high. elim (cases_lt at (number_of bs place)) [
        | inl before ↦ c.loop-at.invariant.before at low before
        | inr here ↦ before_in_block c.args.asked.now bs place.block place.index (length (block_at bs place.block)) (omega arith) (omega arith)
            c.in-None.ensures.none at here (omega arith)
      ];
      order = omega arith;
      ticks = omega (arith, c.in-None.ensures.none_ticks);
      looked = omega (arith, c.in-None.ensures.none_looked);
      more = omega (arith, c.in-None.ensures.more);
    }
