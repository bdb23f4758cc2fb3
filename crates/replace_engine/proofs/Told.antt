-- The change of an edit that is done leads from the state before to the state after.
use Rattle.std.proofs.Common.{◌≡◌, ℕ, ◌∙◌, inl}
use Rattle.edit_base.specs.declared.verdicts.Verdict.TheVariants.{Done}
use Rattle.edit_model.specs.declared.steps.Step.{Step}
use Rattle.edit_model.specs.State.{State}
use Rattle.edit_model.specs.Verdicts.{judged}
use Rattle.edit_model.specs.Changed.{Effect, change_of, stepped, state_after, effect_after}
use Rattle.edit_model.specs.Leads.{LeadsTo}
use Rattle.replace_engine.proofs.Done.{on_done-at_done}

pub leads_done : (old new : State) (last effect : Effect) (slots : ℕ) (asked : Step) → judged old slots asked ≡ Done → new ≡ state_after old slots asked
    → effect ≡ effect_after old slots asked last
    → LeadsTo effect old new
leads_done old new last effect slots asked is_done state_is effect_is = inl (record {
  slots = slots;
  asked = asked;
  is_done = is_done;
  state = state_is ∙ on_done-at_done (judged old slots asked) (stepped old asked) old is_done;
  effect_is = effect_is ∙ on_done-at_done (judged old slots asked) (change_of old asked) last is_done;
})

-- a follower of every state follows the state before
pub told_done : (old new : State) (last effect : Effect) (slots : ℕ) (asked : Step) → judged old slots asked ≡ Done → new ≡ state_after old slots asked
    → effect ≡ effect_after old slots asked last
    → (state : State) × Unit {0} × LeadsTo effect state new
told_done old new last effect slots asked is_done state_is effect_is = (old, tt, leads_done old new last effect slots asked is_done state_is effect_is)
