-- The slots so far are gone.
use Rattle.std.proofs.Common.{◌≡◌, ◌≤◌, not, take, vec_capacity}
use Rattle.std.specs.List.{filter}
use Rattle.slot_ranks.specs.Slots.{is_among}
use Rattle.slot_lists.proofs.edits.remove_slots.Given as goal

abbrev pub invariant-loop-slot : goal.invariant-loop-slot
invariant-loop-slot l = record {
  slots : l.slots.items ≡ filter (λ x. not (is_among (take l.slot-index l.gone) x)) l.initial.slots.items;
  capacity : vec_capacity l.initial.slots ≤ vec_capacity l.slots;
}
