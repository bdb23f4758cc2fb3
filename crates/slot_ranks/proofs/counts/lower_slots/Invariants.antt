use Rattle.slot_ranks.specs.Ranks.{IsLowered}
use Rattle.slot_ranks.proofs.counts.lower_slots.Given as goal

abbrev pub invariant-loop-at : goal.invariant-loop-at
invariant-loop-at l = IsLowered l.initial.inner l.inner l.from l.at
