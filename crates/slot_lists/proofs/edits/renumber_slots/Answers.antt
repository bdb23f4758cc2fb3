-- Each turn writes one number.
use Rattle.std.proofs.Common.{get_or, arith}
use Rattle.std.proofs.lemmas.List.{get_or_default}
use Rattle.std.proofs.lemmas.List.Edits.{map_over_more}
use Rattle.slot_ranks.specs.Slots.{rank}
use Rattle.slot_lists.proofs.edits.renumber_slots.Goals as goal

pub loop-slot-preserved : goal.loop-slot-preserved
loop-slot-preserved c =
    let slots = c.loop-slot.slots in
    let i = c.loop-slot.slot-index in
    let x = get_or slots i 0 in
    rw c.rank.ensures.rank (map_over_more (rank c.args.ranks.now.live) c.args.slots.now slots i x (omega arith) c.loop-slot.invariant
    (get_or_default slots i 0 x (omega arith)))
