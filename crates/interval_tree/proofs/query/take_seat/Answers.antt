-- The seat that is read.
use Rattle.std.proofs.Common.{◌++◌, ap, ◌∙◌, sym}
use Rattle.std.proofs.lemmas.List.{append-nil}
use Rattle.span_table.specs.Table.{spans_of}
use Rattle.interval_tree.specs.Walk.{place_in}
use Rattle.interval_tree.proofs.QueryPlaces.{read_place, read_span}
use Rattle.interval_tree.proofs.QuerySeats.{seat_found, seat_passed}
use Rattle.interval_tree.proofs.query.take_seat.Goals as goal

pub returns-in_ok-push-clause-ok : goal.returns-in_ok-push-clause-ok
returns-in_ok-push-clause-ok g c =
    let rows = c.args.rows.now in
    let row = c.row_in-row.result in
    let known = c.count-count.ensures in
    let read = c.row_in-row.ensures in
    c.in_ok-push.ensures.items
    ∙ ap (λ more. c.args.out.now.items ++ more)
    (seat_found c.args.start c.args.end (spans_of rows) row (place_in rows.slots c.args.seat)
    (read_span rows known.rising known.placed c.args.seat row read.order read.within read.span)
    (read_place rows known.rising known.placed c.args.seat row read.order read.within) (sym c.if-lies_over.ensures))

pub returns-else-lies_over-clause-ok : goal.returns-else-lies_over-clause-ok
returns-else-lies_over-clause-ok g c =
    let rows = c.args.rows.now in
    let row = c.row_in-row.result in
    let known = c.count-count.ensures in
    let read = c.row_in-row.ensures in
    sym (append-nil c.args.out.now.items)
    ∙ ap (λ more. c.args.out.now.items ++ more)
    (seat_passed c.args.start c.args.end (spans_of rows) row (place_in rows.slots c.args.seat)
    (read_span rows known.rising known.placed c.args.seat row read.order read.within read.span) (sym c.if-lies_over.ensures))
