-- Each turn takes one slot more.
use Rattle.std.proofs.Common.{ℕ, List, not, take, slice_index, arith, ap, sym, ◌∙◌}
use Rattle.std.specs.List.{filter}
use Rattle.std.proofs.lemmas.List.{take_more}
use Rattle.std.proofs.lemmas.List.Kept.{IsStrictlyIncreasing-filter}
use Rattle.slot_ranks.specs.Slots.{is_among}
use Rattle.slot_lists.specs.Rising.{without_slot}
use Rattle.slot_lists.proofs.Laws.{without_first, without_more}
use Rattle.slot_lists.proofs.edits.remove_slots.Goals as goal

pub loop-slot-init : goal.loop-slot-init
loop-slot-init c = record {
  slots = without_first c.args.slots.now.items;
  capacity = omega arith;
}

pub remove_slot-requires : goal.remove_slot-requires
remove_slot-requires c = record {
  rising = rw c.loop-slot.invariant.slots
      (IsStrictlyIncreasing-filter (λ x. not (is_among (take c.loop-slot.slot-index c.args.gone.now) x)) c.args.slots.now.items c.requires.rising);
}

pub loop-slot-preserved : goal.loop-slot-preserved
loop-slot-preserved c =
    let gone = c.args.gone.now in
    let i = c.loop-slot.slot-index in
    let xs = c.args.slots.now.items in
    let slot = slice_index gone i in
    let kept = c.loop-slot.invariant.capacity in
    let more = c.remove_slot.ensures.capacity in
    record {
      slots = c.remove_slot.ensures.slots ∙ ap (without_slot slot) c.loop-slot.invariant.slots
          ∙ sym (without_more (take i gone) xs slot)
          ∙ ap (λ (ys : List ℕ). filter (λ x. not (is_among ys x)) xs) (sym (take_more gone i 0 (omega arith)));
      capacity = omega arith;
    }
