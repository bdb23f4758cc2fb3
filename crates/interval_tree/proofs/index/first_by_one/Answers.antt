-- The first row that passes the test.
use Rattle.std.proofs.Common.{sym, ap, ◌∙◌, below_more, arith}
use Rattle.std.proofs.lemmas.List.{length-map}
use Rattle.edit_model.specs.Replaced.{is_emptied}
use Rattle.span_table.specs.Table.{seen, spans_of}
use Rattle.interval_tree.proofs.IndexFirst.{first_passes, none_passes}
use Rattle.interval_tree.proofs.index.first_by_one.Goals as goal

pub returns-then-is_emptied : goal.returns-then-is_emptied
returns-then-is_emptied c =
    let test = is_emptied c.args.start c.args.end c.args.grown in
    let rows = c.args.rows.now in
    first_passes test (spans_of rows) c.loop-place.place (omega (arith, length-map rows.kept (seen rows.gap rows.room))) c.loop-place.invariant
    (sym (ap test c.read.ensures.span) ∙ sym c.is_emptied.ensures ∙ c.if-is_emptied.true)

pub loop-place-preserved : goal.loop-place-preserved
loop-place-preserved c =
    let test = is_emptied c.args.start c.args.end c.args.grown in
    below_more _ _ c.loop-place.invariant (sym (ap test c.read.ensures.span) ∙ sym c.is_emptied.ensures ∙ c.if-is_emptied.false)

pub returns : goal.returns
returns c =
    let rows = c.args.rows.now in
    none_passes (is_emptied c.args.start c.args.end c.args.grown) (spans_of rows) c.loop-place.place
    (omega (arith, length-map rows.kept (seen rows.gap rows.room))) c.loop-place.invariant
