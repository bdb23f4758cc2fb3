-- One row more of each kind that it is of.
use Rattle.std.proofs.Common.{ap, false, ◌∙◌, ◌+◌}
use Rattle.row_kinds.specs.Kinds.{is_composing_row, is_paragraph_row, is_seat_row, turned}
use Rattle.row_kinds.proofs.KindChanges.{counted_added, turned_added}
use Rattle.row_kinds.proofs.tally.Tally.enter.Goals as goal

pub returns-clause-tally : goal.returns-clause-tally
returns-clause-tally c = λ kept slots long behind tally. record {
  counted = counted_added is_paragraph_row kept c.args.row.now c.args.self.now.paragraphs _ tally.counted
      (ap (λ n. c.args.self.now.paragraphs + n) (c.standing.ensures));
  composed = c.turn.ensures.slots ∙ ap (λ is. turned false is c.args.slot c.args.self.now.composing.slots) c.is_composing.ensures
      ∙ ap (turned false (is_composing_row c.args.row.now) c.args.slot) tally.composed
      ∙ turned_added is_composing_row kept slots c.args.row.now c.args.slot long behind;
  seated = c.turn-2.ensures.slots ∙ ap (λ is. turned false is c.args.slot c.args.self.now.seats.slots) c.is_watch.ensures
      ∙ ap (turned false (is_seat_row c.args.row.now) c.args.slot) tally.seated
      ∙ turned_added is_seat_row kept slots c.args.row.now c.args.slot long behind;
}
