-- The blocks so far are counted.
use Rattle.std.proofs.Common.{◌≡◌, ℕ, ◌<◌, ◌*◌, get_or}
use Rattle.slot_ranks.specs.Slots.{rank}
use Rattle.slot_ranks.proofs.counts.count_blocks.Given as goal

abbrev pub invariant-loop-block : goal.invariant-loop-block
invariant-loop-block l = record {
  count : l.count ≡ rank l.live (64 * l.block);
  ahead : (k : ℕ) → k < l.block → get_or l.before k 0 ≡ rank l.live (64 * k);
}
