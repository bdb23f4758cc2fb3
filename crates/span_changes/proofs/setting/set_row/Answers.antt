-- An id without a place isn't attached.
use Rattle.std.proofs.Common.{ap, is_some, sym, ◌∙◌}
use Rattle.edit_model.specs.Attached.{is_attached}
use Rattle.span_changes.proofs.setting.set_row.Goals as goal

pub append_row-requires-clause-absent : goal.append_row-requires-clause-absent
append_row-requires-clause-absent c =
    ap (is_attached c.args.row.now.id) (sym c.rows.ensures.spans) ∙ sym c.find.ensures.attached ∙ ap is_some c.in-None.is

pub returns-in-None-clause-attached : goal.returns-in-None-clause-attached
returns-in-None-clause-attached c =
    let absent = ap (is_attached c.args.row.now.id) (sym c.rows.ensures.spans) ∙ sym c.find.ensures.attached ∙ ap is_some c.in-None.is in
    λ attached. absurd (cc)
