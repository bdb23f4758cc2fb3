-- The region's row is the span at the place of its id.
use Rattle.std.proofs.Common.{cond, ap, sym, ◌∙◌}
use Rattle.edit_model.specs.Flags.{is_composing}
use Rattle.span_table.specs.Table.{span_at, spans_of}
use Rattle.span_changes.proofs.Dropped.{none_counted, region_counted}
use Rattle.span_changes.proofs.Lists.{same_seen}
use Rattle.span_changes.proofs.composing.region_count.Goals as goal

pub returns-in-Some : goal.returns-in-Some
returns-in-Some c =
    let same = same_seen c.rows.result.now c.args.rows.now c.rows.ensures.kept c.rows.ensures.gap c.rows.ensures.room in
    let row = c.read.ensures.span ∙ ap (λ spans. span_at spans c.in-Some.at) same in
    c.count_composing.ensures ∙ ap (λ span. cond (is_composing span.flags) 1 0) row
    ∙ region_counted (spans_of c.args.rows.now) c.in-Some.at c.requires (sym c.in-Some.ensures.place)

pub returns-in-None : goal.returns-in-None
returns-in-None c = none_counted (spans_of c.args.rows.now) (sym c.in-None.ensures.attached)
