-- The list rises without the slot.
use Rattle.std.proofs.Common.{eqb, not}
use Rattle.std.proofs.lemmas.List.Kept.{IsStrictlyIncreasing-filter}
use Rattle.slot_lists.proofs.list.SlotList.remove.Goals as goal

pub invariant_of-self : goal.invariant_of-self
invariant_of-self c =
    rw c.remove_slot.ensures.slots (IsStrictlyIncreasing-filter (λ other. not (eqb other c.args.slot)) c.self.inside.slots.items c.self.invariant)
