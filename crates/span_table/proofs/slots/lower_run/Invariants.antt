-- The numbers of the slots so far are written, and the others are as they were.
use Rattle.std.proofs.Common.{◌-◌}
use Rattle.span_table.proofs.Places.{IsCarrying}
use Rattle.span_table.proofs.slots.lower_run.Given as goal

abbrev pub invariant-loop-slot : goal.invariant-loop-slot
invariant-loop-slot l = IsCarrying (λ number. number - l.by) l.run l.slot-index l.initial.numbers l.numbers
