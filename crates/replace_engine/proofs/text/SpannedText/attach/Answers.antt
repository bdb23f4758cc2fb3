-- The span is set, and the state is well formed and seated as before.
use Rattle.std.proofs.Common.{◌≡◌, rules, ap, ◌∙◌, arith}
use Rattle.edit_model.specs.Changed.{stepped}
use Rattle.edit_model.proofs.EditedStates.{well_formed-stepped, seated-stepped}
use Rattle.replace_engine.specs.EditVerdicts.{set_of}
use Rattle.span_changes.specs.Rows.{state_with}
use Rattle.replace_engine.proofs.Sound.{formed_as, seated_as, spare_set}
use Rattle.replace_engine.proofs.text.SpannedText.attach.Goals as goal

-- the text before the edit, as the value shows it
before : (c : goal.In_ok-set_row) → state_with c.self.inside.units.units c.self.inside.change.moved.rows ≡ c.args.self.now.state
before c = ap (λ seen. seen.state) c.self.view_is

after : (c : goal.In_ok-set_row)
    → state_with c.self.inside.units.units c.set_row.new.change.moved.rows ≡ stepped c.args.self.now.state (set_of c.args.asked.now)
unfolding stepped
after c = search rules

pub returns-clause-well_formed : goal.returns-clause-well_formed
returns-clause-well_formed c =
    formed_as (stepped c.args.self.now.state (set_of c.args.asked.now)) _ c.set_row.new.change.moved.rows (ap (λ state. state.units) (after c))
    (ap (λ state. state.spans) (after c))
    (well_formed-stepped c.args.self.now.state c.args.slots (set_of c.args.asked.now) c.requires.done tt (rw (← before c) c.self.invariant.formed))

pub invariant_of-self-2 : goal.invariant_of-self-2
invariant_of-self-2 c = record {
  formed = returns-clause-well_formed c;
  room = c.set_row.ensures.told;
  told = c.set_row.ensures.tells c.self.invariant.told;
  place = c.set_row.ensures.gap.gap ∙ c.self.invariant.place;
  width = omega (arith, c.set_row.ensures.gap.room, c.self.invariant.width);
}

pub returns-clause-seated : goal.returns-clause-seated
returns-clause-seated c = λ seated.
    seated_as c.args.slots _ _ (ap (λ state. state.spans) (after c))
    (seated-stepped c.args.self.now.state c.args.slots (set_of c.args.asked.now) c.requires.done seated)

pub returns-clause-spare_spans : goal.returns-clause-spare_spans
returns-clause-spare_spans c =
    rw (← ap (λ seen. seen.spare_spans) c.self.view_is, ← ap (λ state. state.spans) (before c))
    (spare_set
    (record { id = c.args.asked.now.id; start = c.place_of.result; end = c.place_of-2.result; flags = c.args.asked.now.flags; what = c.args.asked.now.what })
    _ _ c.self.inside.change c.set_row.new.change c.set_row.ensures.touched c.set_row.ensures.spare c.set_row.ensures.lists c.in_ok-set_row.ensures.rows)
