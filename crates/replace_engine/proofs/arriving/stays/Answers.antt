-- The id's span is the one at its place.
use Rattle.std.proofs.Common.{◌≡◌, not, sym, ap, ◌∙◌}
use Rattle.std.specs.Option.{is_some}
use Rattle.edit_model.specs.State.{Span}
use Rattle.edit_model.specs.Replaced.{is_emptied}
use Rattle.edit_model.specs.Rows.{span_of}
use Rattle.span_table.specs.Table.{span_at, spans_of}
use Rattle.replace_engine.proofs.Arrived.{attached-stayed}
use Rattle.span_changes.proofs.Lists.{same_seen}
use Rattle.replace_engine.proofs.Passing.{absent_pass, distinct_spans, found_passes}
use Rattle.replace_engine.proofs.arriving.stays.Goals as goal

pub returns-in-Some : goal.returns-in-Some
returns-in-Some c =
    let cut = c.args.cut.now in
    let rows = c.args.rows.now in
    let is = c.rows.ensures in
    let stays = λ (span : Span). not (is_emptied cut.start cut.end cut.grown span) in
    let there : span_of c.read.result ≡ span_at (spans_of rows) c.in-Some.at =
    c.read.ensures.span ∙ ap (λ spans. span_at spans c.in-Some.at) (same_seen c.rows.result.now rows is.kept is.gap is.room) in
    ap not c.is_emptied.ensures ∙ ap stays there
    ∙ sym (found_passes c.args.id stays (spans_of rows) c.in-Some.at (distinct_spans rows is.distinct) (sym c.find.ensures.place ∙ c.in-Some.is))
    ∙ attached-stayed cut c.args.id (spans_of rows)

pub returns-in-None : goal.returns-in-None
returns-in-None c =
    let cut = c.args.cut.now in
    let spans = spans_of c.args.rows.now in
    sym (absent_pass c.args.id (λ span. not (is_emptied cut.start cut.end cut.grown span)) spans
    (sym c.find.ensures.attached ∙ ap is_some c.in-None.is))
    ∙ attached-stayed cut c.args.id spans
