-- The ends of the selection are the spans at the places of their ids.
use Rattle.std.proofs.Common.{ap, sym, ◌∙◌, Some}
use Rattle.span_table.specs.Table.{span_at, spans_of}
use Rattle.span_changes.proofs.Kept.{found_by_id, none_by_id}
use Rattle.span_changes.proofs.Lists.{same_seen}
use Rattle.span_changes.proofs.selecting.selection_of.Goals as goal

pub returns-in_err-first-clause-ends : goal.returns-in_err-first-clause-ends
returns-in_err-first-clause-ends c =
    rw (none_by_id 0 (spans_of c.args.rows.now) (sym c.in_err-first.ensures.attached)) c.from_residual.ensures

pub returns-clause-ends : goal.returns-clause-ends
returns-clause-ends c =
    let first_same = same_seen c.rows.result.now c.args.rows.now c.rows.ensures.kept c.rows.ensures.gap c.rows.ensures.room in
    let last_same = same_seen c.rows-2.result.now c.args.rows.now c.rows-2.ensures.kept c.rows-2.ensures.gap c.rows-2.ensures.room in
    let first = c.read.ensures.span ∙ ap (λ spans. span_at spans c.in_ok-first.first) first_same in
    let last = c.read-2.ensures.span ∙ ap (λ spans. span_at spans c.in_ok-last.last) last_same in
    rw (
      found_by_id 0 (spans_of c.args.rows.now) c.in_ok-first.first (sym c.in_ok-first.ensures.place),
      found_by_id 1 (spans_of c.args.rows.now) c.in_ok-last.last (sym c.in_ok-last.ensures.place),
    )
    (ap (λ one. Some (one.start, c.read-2.result.start)) first
    ∙ ap (λ one. Some ((span_at (spans_of c.args.rows.now) c.in_ok-first.first).start, one.start)) last)
