-- The row's place is that of the slot that is kept beside the id.
use Rattle.std.proofs.Common.{◌∙◌, ap, sym, Some, None, arith}
use Rattle.edit_model.specs.Attached.{has_id}
use Rattle.row_kinds.proofs.KindSlots.{climbs_from}
use Rattle.span_table.specs.Table.{row_place, spans_of}
use Rattle.interval_tree.proofs.IdsAttached.{first_any}
use Rattle.interval_tree.proofs.NamedPlaces.{named_nowhere, named_place}
use Rattle.interval_tree.proofs.index.SpanIndex.find.Goals as goal

pub returns-in-Some-clause-place : goal.returns-in-Some-clause-place
returns-in-Some-clause-place c =
    let rows = c.self.inside.rows in
    named_place rows.gap rows.room c.args.id rows.kept rows.slots c.count-count.ensures.placed (climbs_from rows.slots c.count-count.ensures.rising)
    c.in-Some.slot c.rank_of.result (sym (c.self.invariant.named.beside c.args.id) ∙ sym c.get.ensures ∙ c.in-Some.is)
    (omega (arith, c.rank_of.ensures.within, c.count-count.ensures.placed)) c.rank_of.ensures.slot
    ∙ ap (λ seen. row_place c.args.id (spans_of seen)) c.self.view_is

pub returns-in-Some-clause-attached : goal.returns-in-Some-clause-attached
returns-in-Some-clause-attached c = first_any (has_id c.args.id) (Some c.rank_of.result) (spans_of c.args.self.now) (returns-in-Some-clause-place c)

pub returns-in-None-clause-place : goal.returns-in-None-clause-place
returns-in-None-clause-place c =
    let rows = c.self.inside.rows in
    named_nowhere rows.gap rows.room c.args.id rows.kept rows.slots c.count-count.ensures.placed (climbs_from rows.slots c.count-count.ensures.rising)
    (sym (c.self.invariant.named.beside c.args.id) ∙ sym c.get.ensures ∙ c.in-None.is)
    ∙ ap (λ seen. row_place c.args.id (spans_of seen)) c.self.view_is

pub returns-in-None-clause-attached : goal.returns-in-None-clause-attached
returns-in-None-clause-attached c = first_any (has_id c.args.id) None (spans_of c.args.self.now) (returns-in-None-clause-place c)
