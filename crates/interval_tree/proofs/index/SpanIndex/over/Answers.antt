-- Each seat is a step, and there are few.
use Rattle.std.proofs.Common.{◌-◌, ◌<◌, ◌^◌, sym, subst, ap, ◌∙◌, length, arith}
use Rattle.row_kinds.specs.Kinds.{is_seat_row}
use Rattle.span_table.specs.Table.{spans_of}
use Rattle.interval_tree.specs.Answers.{IsWithin}
use Rattle.interval_tree.proofs.IndexLaws.{slots_few}
use Rattle.interval_tree.proofs.IndexSeats.{seats_within}
use Rattle.interval_tree.proofs.index.SpanIndex.over.Goals as goal

pub returns-then-has_few-clause-ticks : goal.returns-then-has_few-clause-ticks
returns-then-has_few-clause-ticks g c =
    let rows = c.self.inside.rows in
    let seats = c.as_slice-seats.result.now in
    subst (λ seen. IsWithin c.args.qs c.args.qe (spans_of seen) (c.seats_over.new.steps - c.args.steps.now)) c.self.view_is
    (seats_within c.args.qs c.args.qe rows.gap rows.room rows.kept (length seats) c.args.steps.now _
    (omega (arith, ap length (c.as_slice-seats.ensures.slots ∙ c.self.invariant.tally.seated), slots_few is_seat_row rows.kept rows.slots c.count.ensures.placed))
    (λ h below. c.has_few.ensures.0 c.if-has_few.true h (subst (λ n. n < 2 ^ h) (sym c.count.ensures.count) below))
    c.seats_over.ensures.ticks)
