-- The ends in order of attachment, where both are attached, one is or none.
use Rattle.std.proofs.Common.{sym, arith}
use Rattle.span_table.specs.Table.{spans_of}
use Rattle.span_changes.proofs.Ends.{from_end, from_start, without_end, without_start}
use Rattle.span_changes.proofs.selecting.first_end.Goals as goal

pub returns-in_default-clause-order : goal.returns-in_default-clause-order
returns-in_default-clause-order c = without_start (spans_of c.args.rows.now) (sym c.in_default.ensures.attached)

pub returns-in_default-find-clause-order : goal.returns-in_default-find-clause-order
returns-in_default-find-clause-order c = without_end (spans_of c.args.rows.now) (sym c.in_default-find.ensures.attached)

pub returns-then-start-end-clause-order : goal.returns-then-start-end-clause-order
returns-then-start-end-clause-order c =
    from_start (spans_of c.args.rows.now) c.in-Some.start c.in-Some-find.end c.requires
    (sym c.in-Some.ensures.place) (sym c.in-Some-find.ensures.place) (omega (arith, c.if-start-end.true))

pub returns-else-start-end-clause-order : goal.returns-else-start-end-clause-order
returns-else-start-end-clause-order c =
    from_end (spans_of c.args.rows.now) c.in-Some.start c.in-Some-find.end c.requires
    (sym c.in-Some.ensures.place) (sym c.in-Some-find.ensures.place) (omega (arith, c.if-start-end.false))
