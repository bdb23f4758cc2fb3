-- Each slot goes by its new name.
use Rattle.std.proofs.Common.{ap, sym, map, ◌∙◌}
use Rattle.slot_ranks.specs.Slots.{rank}
use Rattle.row_kinds.specs.Kinds.{is_composing_row, is_seat_row}
use Rattle.row_kinds.proofs.KindSlots.{slots_renamed}
use Rattle.row_kinds.proofs.tally.Tally.renumber.Goals as goal

pub returns-clause-tally : goal.returns-clause-tally
returns-clause-tally c = λ kept slots tally.
    let f = rank c.args.ranks.now.live in
    record {
      counted = tally.counted;
      composed = c.renumber.ensures.slots ∙ ap (map f) tally.composed ∙ sym (slots_renamed is_composing_row f kept slots);
      seated = c.renumber-2.ensures.slots ∙ ap (map f) tally.seated ∙ sym (slots_renamed is_seat_row f kept slots);
    }
