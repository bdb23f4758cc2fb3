-- The row's kinds come and go in its slot.
use Rattle.std.proofs.Common.{ap, ◌∙◌, ◌+◌, ◌-◌}
use Rattle.row_kinds.specs.Kinds.{is_composing_row, is_paragraph_row, is_seat_row, one_if, turned}
use Rattle.row_kinds.proofs.KindChanges.{counted_set, turned_set}
use Rattle.row_kinds.proofs.tally.Tally.change.Goals as goal

pub returns-clause-tally : goal.returns-clause-tally
returns-clause-tally c = λ kept slots place long up within here there tally. record {
  counted = counted_set is_paragraph_row kept place c.args.old.now c.args.new.now c.args.self.now.paragraphs _ within there tally.counted
      (ap (λ n. c.args.self.now.paragraphs - n + c.standing-2.result) c.standing.ensures
      ∙ ap (λ n. c.args.self.now.paragraphs - one_if (is_paragraph_row c.args.old.now) + n) c.standing-2.ensures);
  composed = c.turn.ensures.slots ∙ ap (λ is. turned is c.is_composing-2.result c.args.slot c.args.self.now.composing.slots) c.is_composing.ensures
      ∙ ap (λ is. turned (is_composing_row c.args.old.now) is c.args.slot c.args.self.now.composing.slots) c.is_composing-2.ensures
      ∙ ap (turned (is_composing_row c.args.old.now) (is_composing_row c.args.new.now) c.args.slot) tally.composed
      ∙ turned_set is_composing_row kept slots place c.args.old.now c.args.new.now c.args.slot long up within here there;
  seated = c.turn-2.ensures.slots ∙ ap (λ is. turned is c.is_watch-2.result c.args.slot c.args.self.now.seats.slots) c.is_watch.ensures
      ∙ ap (λ is. turned (is_seat_row c.args.old.now) is c.args.slot c.args.self.now.seats.slots) c.is_watch-2.ensures
      ∙ ap (turned (is_seat_row c.args.old.now) (is_seat_row c.args.new.now) c.args.slot) tally.seated
      ∙ turned_set is_seat_row kept slots place c.args.old.now c.args.new.now c.args.slot long up within here there;
}
