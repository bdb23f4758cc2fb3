-- The list rises with the slot.
use Rattle.slot_lists.proofs.Rises.{with_rises}
use Rattle.slot_lists.proofs.list.SlotList.insert.Goals as goal

pub invariant_of-self : goal.invariant_of-self
invariant_of-self c = rw c.insert_slot.ensures.slots (with_rises c.args.slot c.self.inside.slots.items c.self.invariant)
