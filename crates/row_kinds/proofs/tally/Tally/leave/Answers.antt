-- The row's kinds go from its slot.
use Rattle.std.proofs.Common.{ap, ◌∙◌, ◌-◌, false, ℕ, List, ◌≡◌, add-one, refl}
use Rattle.std.specs.List.{remove}
use Rattle.span_table.specs.Table.{without_at}
use Rattle.row_kinds.specs.Kinds.{is_composing_row, is_paragraph_row, is_seat_row, turned}
use Rattle.row_kinds.proofs.KindChanges.{counted_removed, turned_removed}
use Rattle.row_kinds.proofs.tally.Tally.leave.Goals as goal

removed : {X : Type 0} (i : ℕ) (xs : List X) → without_at i xs ≡ remove xs i
removed i xs = rw add-one refl

pub returns-clause-tally : goal.returns-clause-tally
returns-clause-tally c = λ kept slots place long up within here there tally. rw (removed place kept, removed place slots) (record {
  counted = counted_removed is_paragraph_row kept place c.args.row.now c.args.self.now.paragraphs _ within there tally.counted (ap (λ n. c.args.self.now.paragraphs - n) c.standing.ensures);
  composed = c.turn.ensures.slots ∙ ap (λ is. turned is false c.args.slot c.args.self.now.composing.slots) c.is_composing.ensures
      ∙ ap (turned (is_composing_row c.args.row.now) false c.args.slot) tally.composed
      ∙ turned_removed is_composing_row kept slots place c.args.row.now c.args.slot long up within here there;
  seated = c.turn-2.ensures.slots ∙ ap (λ is. turned is false c.args.slot c.args.self.now.seats.slots) c.is_watch.ensures
      ∙ ap (turned (is_seat_row c.args.row.now) false c.args.slot) tally.seated
      ∙ turned_removed is_seat_row kept slots place c.args.row.now c.args.slot long up within here there;
})
