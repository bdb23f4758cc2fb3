-- The list rises without the slots.
use Rattle.std.proofs.Common.{not}
use Rattle.std.proofs.lemmas.List.Kept.{IsStrictlyIncreasing-filter}
use Rattle.slot_ranks.specs.Slots.{is_among}
use Rattle.slot_lists.proofs.list.SlotList.remove_all.Goals as goal

pub invariant_of-self : goal.invariant_of-self
invariant_of-self c =
    rw c.remove_slots.ensures.slots (IsStrictlyIncreasing-filter (λ slot. not (is_among c.args.gone.now slot)) c.self.inside.slots.items c.self.invariant)
