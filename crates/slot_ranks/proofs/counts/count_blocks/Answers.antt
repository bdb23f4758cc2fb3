-- A block adds the count of its last slot, and one where that is live.
use Rattle.std.proofs.Common.{◌≡◌, ◌<◌, ◌+◌, ◌-◌, ◌*◌, length, inl, inr, arith, sym, ◌∙◌}
use Rattle.std.proofs.lemmas.Bool.{cases_eq}
use Rattle.std.proofs.lemmas.List.{get_or-set_same, get_or-set_other}
use Rattle.slot_ranks.proofs.Below.{rank-zero, rank_bound}
use Rattle.slot_ranks.proofs.Counted.{block_adds, blocks_cover}
use Rattle.slot_ranks.proofs.counts.count_blocks.Goals as goal

pub loop-block-init : goal.loop-block-init
loop-block-init c = record { count = sym (rank-zero c.args.live.now); ahead = λ k h. absurd (omega arith) }

pub overflow_add-count-in-loop-block : goal.overflow_add-count-in-loop-block
overflow_add-count-in-loop-block c =
    let live = c.args.live.now in
    let block = c.loop-block.block in
    let some : 64 * block < length live = omega arith in
    let last : c.min-last.result - 1 + 1 ≡ c.min-last.result = grind arith in
    let adds = block_adds live c.args.inner.now block (c.min-last.result - 1) c.requires.within some (last ∙ c.min-last.ensures) in
    let bound = rank_bound live (64 * (block + 1)) in
    omega arith

pub loop-block-preserved : goal.loop-block-preserved
loop-block-preserved c =
    let live = c.args.live.now in
    let block = c.loop-block.block in
    let before = c.loop-block.before in
    let some : 64 * block < length live = omega arith in
    let last : c.min-last.result - 1 + 1 ≡ c.min-last.result = grind arith in
    let adds = block_adds live c.args.inner.now block (c.min-last.result - 1) c.requires.within some (last ∙ c.min-last.ensures) in
    record {
      count = omega arith;
      ahead = λ k h. elim (cases_eq k block) [
        | inl same ↦ rw (same, get_or-set_same before block c.loop-block.count 0 (omega arith)) c.loop-block.invariant.count
        | inr other ↦ rw (get_or-set_other before block k c.loop-block.count 0 other) (c.loop-block.invariant.ahead k (omega arith))
      ];
    }

pub returns-clause-count : goal.returns-clause-count
returns-clause-count c =
    let block = c.loop-block.block in
    let all : block ≡ length c.args.before.now = omega arith in
    c.loop-block.invariant.count ∙ blocks_cover c.args.live.now block (all ∙ c.requires.blocks)
