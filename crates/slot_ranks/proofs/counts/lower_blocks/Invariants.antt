use Rattle.slot_ranks.specs.Ranks.{IsLowered}
use Rattle.slot_ranks.proofs.counts.lower_blocks.Given as goal

abbrev pub invariant-loop-at : goal.invariant-loop-at
invariant-loop-at l = IsLowered l.initial.before l.before l.from l.at
