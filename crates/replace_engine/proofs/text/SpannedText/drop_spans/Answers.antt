-- The spans go, and the state is well formed and seated as before.
use Rattle.std.proofs.Common.{ap, ◌∙◌, arith, not}
use Rattle.edit_model.specs.Selection.{is_dropped}
use Rattle.edit_model.proofs.Selections.{seated-filter, well_formed-dropped}
use Rattle.span_changes.specs.Rows.{state_with}
use Rattle.replace_engine.proofs.Sound.{room_kept}
use Rattle.replace_engine.proofs.text.SpannedText.drop_spans.Goals as goal

pub returns-clause-well_formed : goal.returns-clause-well_formed
returns-clause-well_formed c =
    rw c.drop_rows.ensures.rows
    (well_formed-dropped (state_with c.self.inside.units.units c.self.inside.change.moved.rows) c.self.invariant.formed)

pub invariant_of-self : goal.invariant_of-self
invariant_of-self c = record {
  formed = returns-clause-well_formed c;
  room = room_kept c.self.inside.change c.drop_rows.new.change _ _ _ _ c.drop_rows.ensures.fewer (omega arith) c.drop_rows.ensures.lists
      c.self.invariant.room;
  told = c.drop_rows.ensures.tells;
  place = c.drop_rows.ensures.gap.gap ∙ c.self.invariant.place;
  width = omega (arith, c.drop_rows.ensures.gap.room, c.self.invariant.width);
}

pub returns-clause-seated : goal.returns-clause-seated
returns-clause-seated c = λ slots seated.
    rw (c.drop_rows.ensures.rows, ap (λ seen. seen.state.spans) c.self.view_is)
    (seated-filter slots (λ span. not (is_dropped span)) c.args.self.now.state.spans seated)
