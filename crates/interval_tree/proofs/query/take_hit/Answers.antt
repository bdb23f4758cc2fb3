-- The row that is read is that of the slot's place.
use Rattle.std.proofs.Common.{◌++◌, ap, ◌∙◌}
use Rattle.std.proofs.lemmas.Result.{on_ok_weaker}
use Rattle.span_table.specs.Table.{spans_of}
use Rattle.interval_tree.specs.Walk.{place_in}
use Rattle.interval_tree.proofs.QueryPlaces.{read_place, read_span}
use Rattle.interval_tree.proofs.QueryRows.{found_row}
use Rattle.interval_tree.proofs.query.take_hit.Goals as goal

pub returns-clause-ok : goal.returns-clause-ok
returns-clause-ok c =
    let rows = c.args.rows.now in
    let row = c.read_in-row.result in
    let known = c.count-count.ensures in
    let read = c.read_in-row.ensures in
    let order = read_place rows known.rising known.placed c.args.slot row read.order read.within in
    let span = read_span rows known.rising known.placed c.args.slot row read.order read.within read.span in
    let q = c.args.query.now in
    on_ok_weaker c.keep.result
    (λ is. is ∙ ap (λ more. c.args.out.now.items ++ more) (found_row q.asked q.start q.end (spans_of rows) row (place_in rows.slots c.args.slot) span order))
    c.keep.ensures.ok
