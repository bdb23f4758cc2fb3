-- Where no other span goes, the region goes as by its id.
use Rattle.std.proofs.Common.{[], ap, sym, ◌∙◌}
use Rattle.edit_model.specs.Changed.{spans_effect}
use Rattle.span_table.specs.Table.{spans_of}
use Rattle.span_changes.proofs.Dropped.{is_alone, others_stay, region_goes}
use Rattle.span_changes.proofs.composing.drop_rows.Goals as goal

pub returns-then-is_region_alone-clause-rows : goal.returns-then-is_region_alone-clause-rows
returns-then-is_region_alone-clause-rows c =
    c.remove_row.ensures.rows
    ∙ others_stay (spans_of c.args.change.now.moved.rows)
    (sym (ap is_alone c.rows.ensures.spans) ∙ sym c.is_region_alone.ensures ∙ c.if-is_region_alone.true)

pub returns-then-is_region_alone-clause-effect : goal.returns-then-is_region_alone-clause-effect
returns-then-is_region_alone-clause-effect c =
    c.remove_row.ensures.effect
    ∙ ap (λ gone. spans_effect gone [] []) (region_goes (spans_of c.args.change.now.moved.rows)
    (sym (ap is_alone c.rows.ensures.spans) ∙ sym c.is_region_alone.ensures ∙ c.if-is_region_alone.true))
