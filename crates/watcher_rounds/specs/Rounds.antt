-- The scenes that calls leave, and how runs of the agenda machine lead from one to another.
use Rattle.std.specs.Prelude.{ℕ, ◌≡◌, ◌≤◌, ◌<◌, ◌++◌, List, [], ◌∷◌, length}
use Rattle.std.specs.List.{All}
use Rattle.edit_base.specs.declared.bounds.TheConstants.Limits.{NESTED_EDITS}
use Rattle.edit_model.specs.declared.entries.LogEntry.{LogEntry}
use Rattle.edit_model.specs.declared.events.SpanCallback.{SpanCallback}
use Rattle.edit_model.specs.declared.filters.Filter.{Filter}
use Rattle.edit_model.specs.declared.items.Item.{Item}
use Rattle.edit_model.specs.State.{State}
use Rattle.edit_model.specs.WellFormed.{IsSeated}
use Rattle.edit_model.specs.Changed.{Effect}
use Rattle.edit_model.specs.Minds.{Mind}
use Rattle.edit_model.specs.Machine.{Setup, Scene, Task, at, run_item, tell_span, Reaches, Leads, Passes, Ends}
use Rattle.watcher_rounds.specs.declared.round.Round.{Round}

-- what the machine is set to
abbrev pub setup_with : List Filter → List ℕ → ℕ → Setup
setup_with filters slots depth = record { filters = filters; slots = slots; depth = depth }

abbrev pub setup_of : Round → Setup
setup_of round = setup_with round.filters.now round.slots.now.items round.depth

-- how many slots there are
abbrev pub slot_count : Round → ℕ
slot_count round = length round.slots.now.items

-- what a call leaves, but for the effects of the edits that were done
abbrev pub stands : State → List Mind → List LogEntry → ℕ → List Effect → Scene
stands state minds log begun effects = record { state = state; minds = minds; log = log; begun = begun; effects = effects }

-- the callback to a watcher of a span
abbrev pub tell_one : SpanCallback → Task
tell_one told = tell_span told.slot told.event

-- ---- what holds between any two steps

-- each slot's watcher stands on the shelf
abbrev pub AreOnShelf : List ℕ → List Mind → Type 0
AreOnShelf places minds = All (λ place. place < length minds) places

-- each seat has a slot, each slot's watcher stands on the shelf, and no more nested edits have begun than may
pub record MayRun (places : List ℕ) (state : State) (minds : List Mind) (begun : ℕ) : Type 0 where
  pub seated : IsSeated (length places) state.spans
  pub on_shelf : AreOnShelf places minds
  pub few : begun ≤ NESTED_EDITS

-- ---- runs

-- what a follower says of effects: told of in their order, they take one value of it to another
abbrev pub Takes : Type 0 → Type 1
Takes F = F → List Effect → F → Type 0

-- the last of some effects, or the one before them where there are none
abbrev pub last_of : List Effect → Effect → Effect
last_of [] before = before
last_of (effect ∷ effects) before = last_of effects effect

-- some effects take a follower from one value to another, and the last of them is what the text tells of then
abbrev pub TakesLast : {F : Type 0} → Takes F → Takes (F × Effect)
TakesLast takes old effects new = takes old.0 effects new.0 × (new.1 ≡ last_of effects old.1)

-- whatever effects there were, these tasks lead on without one more
pub record Tells (r : Setup) (tasks left : List Task) (old new : List Effect → Scene) : Type 0 where
  pub run : (effects : List Effect) → Leads r tasks left (old effects) (new effects)

-- whatever effects there were, these tasks lead on with some more, which are what a follower was told of
pub record Led {F : Type 0} (takes : Takes F) (r : Setup) (tasks left : List Task) (old new : List Effect → Scene) (first last : F)
    : Type 0 where
  pub effects : List Effect
  pub taken : takes first effects last
  pub run : (before : List Effect) → Leads r tasks left (old before) (new (before ++ effects))

-- whatever effects there were, these tasks lead through here, with some more
pub record Passed (r : Setup) (tasks : List Task) (old new : List Effect → Scene) : Type 0 where
  pub effects : List Effect
  pub run : (before : List Effect) → Passes r tasks (old before) (new (before ++ effects))

-- ---- what the engine's call does

-- the run of an item ends here, and the effects of the edits that were done, in order, are those that take the follower from
-- one value to the other
pub record Runs {F : Type 0} (takes : Takes F) (r : Setup) (it : Item) (old new : List Effect → Scene) (first last : F) : Type 0 where
  pub effects : List Effect
  pub taken : takes first effects last
  pub ends : Ends r it (old []) (new effects)

-- the run of an item comes through this scene, whatever is left to do there
pub record ComesThrough (r : Setup) (it : Item) (old new : List Effect → Scene) : Type 0 where
  pub effects : List Effect
  pub agenda : List Task
  pub reaches : Reaches r (at (old []) (run_item it ∷ [])) (at (new effects) agenda)
