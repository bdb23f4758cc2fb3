-- What the run of an item ends at is what the item comes to.
use Rattle.std.proofs.Common.{◌≡◌, ◌∙◌, ℕ, List, [], ◌∷◌, ap}
use Rattle.edit_model.specs.declared.items.Item.{Item}
use Rattle.edit_model.specs.Changed.{Effect}
use Rattle.edit_model.specs.Machine.{Setup, Scene, at, run_item}
use Rattle.edit_model.specs.Outcome.{outcome}
use Rattle.edit_model.proofs.MachineRuns.{ends_once}
use Rattle.edit_model.proofs.Outcomes.{ends-outcome}
use Rattle.edit_model.specs.declared.entries.LogEntry.{LogEntry}
use Rattle.edit_model.specs.State.{State}
use Rattle.edit_model.specs.Minds.{Mind}
use Rattle.watcher_rounds.specs.Rounds.{Takes, TakesLast, last_of, stands, Led, Runs}
use Rattle.watcher_rounds.proofs.Follows.{runs_led}

-- from where no effect stood before
pub runs-outcome : {F : Type 0} {takes : Takes F} {r : Setup} {it : Item} {old new : List Effect → Scene} {first last : F}
    (runs : Runs takes r it old new first last) → new runs.effects ≡ outcome r it (old [])
runs-outcome {r = r} {it = it} {old = old} {new = new} runs =
    ends_once r (at (old []) (run_item it ∷ [])) (new runs.effects) (outcome r it (old [])) runs.ends (ends-outcome r it (old []))

-- what the text tells of then is the last of the outcome's effects
pub last-outcome : {F : Type 0} (takes : Takes F) {r : Setup} {it : Item} {old : List Effect → Scene} {first last : F} {before after : Effect}
    {state : State} {minds : List Mind} {log : List LogEntry} {begun : ℕ}
    → Led (TakesLast takes) r (run_item it ∷ []) [] old (stands state minds log begun) (first, before) (last, after)
    → after ≡ last_of (outcome r it (old [])).effects before
last-outcome takes {before = before} led = led.taken.1 ∙ ap (λ (s : Scene). last_of s.effects before) (runs-outcome (runs_led led))
