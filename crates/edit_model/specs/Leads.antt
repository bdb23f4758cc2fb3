-- A change that leads from one state to another.
use Rattle.std.specs.Prelude.{ℕ, ◌≡◌, ◌⊎◌, [], length}
use Rattle.edit_base.specs.declared.verdicts.Verdict.TheVariants.{Done}
use Rattle.edit_model.specs.declared.steps.Step.{Step}
use Rattle.edit_model.specs.State.{State}
use Rattle.edit_model.specs.Verdicts.{judged}
use Rattle.edit_model.specs.Changed.{Effect, change_of, stepped}

-- the change is that of one edit between the states
pub record IsOneEdit (effect : Effect) (old new : State) : Type 0 where
  pub slots : ℕ
  pub asked : Step
  pub is_done : judged old slots asked ≡ Done
  pub state : new ≡ stepped old asked
  pub effect_is : effect ≡ change_of old asked

-- all units may have changed, and any span
pub record IsWhole (effect : Effect) (old new : State) : Type 0 where
  pub start : effect.start ≡ 0
  pub old_end : effect.old_end ≡ length old.units
  pub grown : effect.grown ≡ length new.units
  pub removed : effect.removed ≡ []
  pub moved : effect.moved ≡ []
  pub added : effect.added ≡ []

abbrev pub LeadsTo : Effect → State → State → Type 0
LeadsTo effect old new = IsOneEdit effect old new ⊎ IsWhole effect old new
