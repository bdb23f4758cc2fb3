-- A slot adds one where it is live.
use Rattle.std.proofs.Common.{◌≢◌, ◌+◌, ◌*◌, inl, inr, arith}
use Rattle.std.proofs.lemmas.Bool.{cases_eq}
use Rattle.std.proofs.lemmas.List.{get_or-set_same, get_or-set_other}
use Rattle.slot_ranks.proofs.Below.{rank_byte, ranks_rise}
use Rattle.slot_ranks.proofs.counts.count_slots.Goals as goal

pub overflow_add-count : goal.overflow_add-count
overflow_add-count c =
    let rise = ranks_rise c.args.live.now (64 * c.args.block) (c.loop-slot.slot + 1) (omega arith) in
    let more = rank_byte c.args.live.now c.loop-slot.slot in
    let one = c.from-count.ensures in
    omega arith

pub loop-slot-preserved : goal.loop-slot-preserved
loop-slot-preserved c =
    let more = rank_byte c.args.live.now c.loop-slot.slot in
    let one = c.from-count.ensures in
    let inner = c.loop-slot.inner in
    let at = c.loop-slot.slot in
    record {
      count = omega arith;
      there = λ k low high. elim (cases_eq k at) [
        | inl same ↦ rw (same, get_or-set_same inner at c.loop-slot.count 0 (omega arith)) (omega arith)
        | inr other ↦ rw (get_or-set_other inner at k c.loop-slot.count 0 other) (c.loop-slot.invariant.there k low (omega arith))
      ];
      front = λ k low. let other : k ≢ at = omega arith in
          rw (get_or-set_other inner at k c.loop-slot.count 0 other) (c.loop-slot.invariant.front k low);
      behind = λ k high. let other : k ≢ at = omega arith in
          rw (get_or-set_other inner at k c.loop-slot.count 0 other) (c.loop-slot.invariant.behind k (omega arith));
    }
