-- The ends go, and the state is well formed and seated as before.
use Rattle.std.proofs.Common.{ap, ◌∙◌, arith, not}
use Rattle.edit_model.specs.Selection.{is_of_selection}
use Rattle.edit_model.proofs.Selections.{seated-filter, well_formed-deselected}
use Rattle.span_changes.specs.Rows.{state_with}
use Rattle.replace_engine.proofs.Sound.{room_kept}
use Rattle.replace_engine.proofs.text.SpannedText.remove_selection.Goals as goal

pub returns-clause-well_formed : goal.returns-clause-well_formed
returns-clause-well_formed c =
    rw c.remove_ends.ensures.rows
    (well_formed-deselected (state_with c.self.inside.units.units c.self.inside.change.moved.rows) c.self.invariant.formed)

pub invariant_of-self : goal.invariant_of-self
invariant_of-self c = record {
  formed = returns-clause-well_formed c;
  room = room_kept c.self.inside.change c.remove_ends.new.change _ _ _ _ c.remove_ends.ensures.fewer (omega arith) c.remove_ends.ensures.lists
      c.self.invariant.room;
  told = c.remove_ends.ensures.tells;
  place = c.remove_ends.ensures.gap.gap ∙ c.self.invariant.place;
  width = omega (arith, c.remove_ends.ensures.gap.room, c.self.invariant.width);
}

pub returns-clause-seated : goal.returns-clause-seated
returns-clause-seated c = λ slots seated.
    rw (c.remove_ends.ensures.rows, ap (λ seen. seen.state.spans) c.self.view_is)
    (seated-filter slots (λ span. not (is_of_selection span)) c.args.self.now.state.spans seated)
