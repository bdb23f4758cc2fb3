-- The span goes, and the state is well formed and seated as before.
use Rattle.std.proofs.Common.{◌≡◌, rules, ap, ◌∙◌, arith}
use Rattle.edit_model.specs.declared.steps.Step.TheVariants as step
use Rattle.edit_model.specs.Changed.{stepped}
use Rattle.edit_model.proofs.EditedStates.{well_formed-stepped}
use Rattle.edit_model.proofs.AttachedSpans.{seated-without_span}
use Rattle.span_changes.specs.Rows.{state_with}
use Rattle.replace_engine.proofs.Sound.{formed_as, room_kept, seated_as}
use Rattle.replace_engine.proofs.text.SpannedText.detach.Goals as goal

-- the text before the edit, as the value shows it
before : (c : goal.After-remove_row) → state_with c.self.inside.units.units c.self.inside.change.moved.rows ≡ c.args.self.now.state
before c = ap (λ seen. seen.state) c.self.view_is

after : (c : goal.After-remove_row)
    → state_with c.self.inside.units.units c.remove_row.new.change.moved.rows ≡ stepped c.args.self.now.state (step.Remove c.args.id)
unfolding stepped
after c = search rules

pub returns-clause-well_formed : goal.returns-clause-well_formed
returns-clause-well_formed c =
    formed_as (stepped c.args.self.now.state (step.Remove c.args.id)) _ c.remove_row.new.change.moved.rows (ap (λ state. state.units) (after c))
    (ap (λ state. state.spans) (after c))
    (well_formed-stepped c.args.self.now.state 0 (step.Remove c.args.id) c.requires tt (rw (← before c) c.self.invariant.formed))

pub invariant_of-self : goal.invariant_of-self
invariant_of-self c = record {
  formed = returns-clause-well_formed c;
  room = room_kept c.self.inside.change c.remove_row.new.change _ _ _ _ c.remove_row.ensures.fewer (omega arith) c.remove_row.ensures.lists
      c.self.invariant.room;
  told = c.remove_row.ensures.tells;
  place = c.remove_row.ensures.gap.gap ∙ c.self.invariant.place;
  width = omega (arith, c.remove_row.ensures.gap.room, c.self.invariant.width);
}

pub returns-clause-seated : goal.returns-clause-seated
unfolding stepped
returns-clause-seated c = λ slots seated.
    seated_as slots _ _ (ap (λ state. state.spans) (after c)) (seated-without_span slots c.args.id c.args.self.now.state.spans seated)
