-- Some span's ends stay at boundaries exactly where some row is counted so.
use Rattle.std.proofs.Common.{◌∙◌, ap, ltb, sym}
use Rattle.std.specs.List.{list_any}
use Rattle.edit_model.proofs.Tests.{list_any-map}
use Rattle.row_kinds.specs.Kinds.{is_paragraph_row}
use Rattle.span_changes.proofs.Lists.{any_counted}
use Rattle.span_table.specs.Table.{seen}
use Rattle.replace_engine.specs.Moved.{is_paragraph_span}
use Rattle.replace_engine.proofs.moving.has_paragraphs.Goals as goal

pub returns : goal.returns
returns c =
    let rows = c.rows.result.now in
    ap (ltb 0) c.paragraphs.ensures
    ∙ any_counted is_paragraph_row rows.kept
    ∙ sym (list_any-map (seen rows.gap rows.room) is_paragraph_span rows.kept)
    ∙ ap (list_any is_paragraph_span) c.rows.ensures.spans
