-- The spans come, and the state is well formed and seated as before.
use Rattle.std.proofs.Common.{◌≡◌, rules, ap, ◌∙◌, arith, [], ◌∷◌, length-append}
use Rattle.edit_model.specs.declared.steps.Step.TheVariants as step
use Rattle.edit_model.specs.Changed.{stepped}
use Rattle.edit_model.proofs.EditedStates.{well_formed-stepped}
use Rattle.edit_model.proofs.Selections.{seated-marked}
use Rattle.edit_model.specs.Selection.{region_span}
use Rattle.std.specs.Prelude.{length}
use Rattle.span_table.specs.Table.{spans_of}
use Rattle.span_changes.specs.Rows.{state_with}
use Rattle.replace_engine.proofs.Sound.{formed_as, seated_as, spare_more}
use Rattle.replace_engine.proofs.text.SpannedText.place_region.Goals as goal

-- the text before the edit, as the value shows it
before : (c : goal.In_ok-mark_row) → state_with c.self.inside.units.units c.self.inside.change.moved.rows ≡ c.args.self.now.state
before c = ap (λ seen. seen.state) c.self.view_is

after : (c : goal.In_ok-mark_row)
    → state_with c.self.inside.units.units c.mark_row.new.change.moved.rows ≡ stepped c.args.self.now.state (step.Mark c.args.start c.args.end)
unfolding stepped
after c = search rules

pub returns-clause-well_formed : goal.returns-clause-well_formed
returns-clause-well_formed c =
    formed_as (stepped c.args.self.now.state (step.Mark c.args.start c.args.end)) _ c.mark_row.new.change.moved.rows (ap (λ state. state.units) (after c))
    (ap (λ state. state.spans) (after c))
    (well_formed-stepped c.args.self.now.state 0 (step.Mark c.args.start c.args.end) c.requires.done (c.requires.order, c.requires.absent) (rw (← before c) c.self.invariant.formed))

pub invariant_of-self-2 : goal.invariant_of-self-2
invariant_of-self-2 c = record {
  formed = returns-clause-well_formed c;
  room = c.mark_row.ensures.told;
  told = c.mark_row.ensures.tells c.self.invariant.told;
  place = c.mark_row.ensures.gap.gap ∙ c.self.invariant.place;
  width = omega (arith, c.mark_row.ensures.gap.room, c.self.invariant.width);
}

pub returns-clause-seated : goal.returns-clause-seated
unfolding stepped
returns-clause-seated c = λ slots seated.
    seated_as slots _ _ (ap (λ state. state.spans) (after c)) (seated-marked slots c.args.start c.args.end c.args.self.now.state.spans seated)

pub returns-clause-spare_spans : goal.returns-clause-spare_spans
returns-clause-spare_spans c =
    rw (← ap (λ seen. seen.spare_spans) c.self.view_is)
    (spare_more 1 _ _ c.self.inside.change c.mark_row.new.change c.mark_row.ensures.touched c.mark_row.ensures.spare c.mark_row.ensures.lists
    (ap length c.in_ok-mark_row.ensures.rows ∙ length-append (spans_of c.self.inside.change.moved.rows) (region_span c.args.start c.args.end ∷ [])))
