-- The id of a row isn't among those before it, and its order is no less than their number.
use Rattle.std.proofs.Common.{◌≡◌, ap, ◌∙◌, length, take, arith}
use Rattle.std.proofs.lemmas.List.{length-map, length-take-le}
use Rattle.edit_model.specs.Attached.{is_attached}
use Rattle.edit_model.specs.Rows.{span_of, spans_in}
use Rattle.interval_tree.proofs.IndexFilled.{fresh_id, late_order}
use Rattle.interval_tree.proofs.index.SpanIndex.refill.Goals as goal

pub add-requires-clause-id : goal.add-requires-clause-id
add-requires-clause-id g c = ap (is_attached _) c.loop-row.invariant.spans
    ∙ fresh_id c.args.rows.now c.loop-row.row-index _ c.requires.distinct (omega (arith, c.loop-row-test.true))

pub add-requires-clause-order : goal.add-requires-clause-order
add-requires-clause-order g c =
    let before = take c.loop-row.row-index c.args.rows.now in
    let count : length c.loop-row.self.kept ≡ c.loop-row.row-index =
    ap length c.loop-row.invariant.kept ∙ length-map (spans_in before) _ ∙ length-map before span_of
    ∙ length-take-le c.loop-row.row-index c.args.rows.now (omega (arith, c.loop-row-test.true)) in
    late_order c.args.rows.now c.loop-row.row-index (length c.loop-row.self.kept) _ count c.requires.rising (omega (arith, c.loop-row-test.true))
