-- The region is the span at the place of its id.
use Rattle.std.proofs.Common.{ap, sym, ◌∙◌, Some}
use Rattle.span_table.specs.Table.{span_at, spans_of}
use Rattle.span_changes.proofs.Kept.{found_by_id, none_by_id}
use Rattle.span_changes.proofs.Lists.{same_seen}
use Rattle.span_changes.proofs.composing.region_of.Goals as goal

pub returns-in_err-find-clause-region : goal.returns-in_err-find-clause-region
returns-in_err-find-clause-region c =
    rw (none_by_id 2 (spans_of c.args.rows.now) (sym c.in_err-find.ensures.attached)) c.from_residual.ensures

pub returns-clause-region : goal.returns-clause-region
returns-clause-region c =
    let same = same_seen c.rows.result.now c.args.rows.now c.rows.ensures.kept c.rows.ensures.gap c.rows.ensures.room in
    let span = c.read-row.ensures.span ∙ ap (λ spans. span_at spans c.in_ok-find.field-0) same in
    rw (found_by_id 2 (spans_of c.args.rows.now) c.in_ok-find.field-0 (sym c.in_ok-find.ensures.place)) (ap (λ one. Some (one.start, one.end)) span)
