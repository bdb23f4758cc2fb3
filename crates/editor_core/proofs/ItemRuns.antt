-- The items of a command, run one behind the other.
use Rattle.std.proofs.Common.{◌≡◌, ◌≤◌, ◌<◌, ◌∙◌, ℕ, ◌+◌, List, [], ◌∷◌, ◌++◌, length, map, drop, get_or, refl, sym, ap, subst, append-nil, arith}
use Rattle.std.proofs.lemmas.List.{drop_more, drop_all, length-map}
use Rattle.std.specs.List.{All}
use Rattle.edit_model.specs.declared.entries.LogEntry.{LogEntry}
use Rattle.edit_model.specs.declared.filters.Filter.{Filter}
use Rattle.edit_model.specs.declared.items.Item.{Item}
use Rattle.edit_model.specs.State.{State}
use Rattle.edit_model.specs.Fitting.{HasTurn}
use Rattle.edit_model.specs.Changed.{Effect}
use Rattle.edit_model.specs.Minds.{Mind}
use Rattle.edit_model.specs.Machine.{Setup, Scene, Task, Reaches, at, run_item}
use Rattle.edit_model.specs.Outcome.{outcome, outcomes}
use Rattle.edit_model.proofs.MachineRuns.{reaches_none, reaches_on, ends_once}
use Rattle.edit_model.proofs.Outcomes.{ends-outcome, ends-outcomes}
use Rattle.watcher_rounds.specs.Rounds.{Takes, stands, Runs, ComesThrough}
use Rattle.editor_core.specs.Editors.{HaveTurns, ComesBy}
use Rattle.editor_core.proofs.Machine.{front, reaches_ahead}

-- some items were run, and others are left, each of which may have its turn
pub record Ran (r : Setup) (items left : List Item) (old : Scene) (now : List Effect → Scene) : Type 0 where
  pub effects : List Effect
  pub through : Reaches r (at old (map run_item items)) (at (now effects) (map run_item left))
  pub turns : HaveTurns r left (now effects)

-- before the first item
pub ran-none : (r : Setup) (items : List Item) (state : State) (minds : List Mind) (log : List LogEntry) → log ≡ []
    → HaveTurns r items (stands state minds [] 0 []) → Ran r items items (stands state minds [] 0 []) (stands state minds log 0)
ran-none r items state minds log empty turns =
    subst (λ (log : List LogEntry). Ran r items items (stands state minds [] 0 []) (stands state minds log 0)) (sym empty)
    (record { effects = []; through = reaches_none r (at (stands state minds [] 0 []) (map run_item items)); turns = turns })

-- a scene behind other effects
abbrev Behind : State → List Mind → List LogEntry → ℕ → List Effect → Type 0
Behind state minds log begun es = front es (stands state minds log begun []) ≡ stands state minds log begun es

behind_none : (state : State) (minds : List Mind) (log : List LogEntry) (begun : ℕ) (es : List Effect) → Behind state minds log begun es
behind_none state minds log begun es = ap (stands state minds log begun) (append-nil es)

-- the first item that is left ends here
item_ends : {F : Type 0} {takes : Takes F} {first last : F} {r : Setup} {it : Item} {state after : State} {minds kept : List Mind}
    {log more : List LogEntry} {begun spent : ℕ} (es : List Effect) (rest : List Task)
    (runs : Runs takes r it (stands state minds log begun) (stands after kept more spent) first last)
    → Reaches r (at (stands state minds log begun es) (run_item it ∷ rest)) (at (stands after kept more spent (es ++ runs.effects)) rest)
item_ends {r = r} {it = it} {state = state} {after = after} {minds = minds} {kept = kept} {log = log} {more = more} {begun = begun} {spent = spent} es rest runs =
    subst (λ s. Reaches r (at s (run_item it ∷ rest)) (at (stands after kept more spent (es ++ runs.effects)) rest)) (behind_none state minds log begun es)
    (reaches_ahead es rest runs.ends)

pub ran-more : {F : Type 0} {takes : Takes F} {first last : F} {r : Setup} {items left : List Item} {old : Scene} {it : Item} {state after : State}
    {minds kept : List Mind} {log more : List LogEntry} {begun spent : ℕ}
    → Ran r items (it ∷ left) old (stands state minds log begun) → Runs takes r it (stands state minds log begun) (stands after kept more spent) first last
    → Ran r items left old (stands after kept more spent)
ran-more {r = r} {left = left} {it = it} {state = state} {after = after} {minds = minds} {kept = kept} {log = log} {more = more} {begun = begun} {spent = spent} ran runs =
    let now = stands state minds log begun ran.effects in
    let next = stands after kept more spent (ran.effects ++ runs.effects) in
    let same : outcome r it now ≡ next = ends_once r (at now (run_item it ∷ [])) (outcome r it now) next (ends-outcome r it now) (item_ends ran.effects [] runs) in
    record {
      effects = ran.effects ++ runs.effects;
      through = reaches_on ran.through (item_ends ran.effects (map run_item left) runs);
      turns = subst (HaveTurns r left) same ran.turns.1;
    }

-- it comes through here
pub ran-partly : {r : Setup} {items left : List Item} {old : Scene} {it : Item} {state after : State} {minds kept : List Mind}
    {log more : List LogEntry} {begun spent : ℕ}
    → Ran r items (it ∷ left) old (stands state minds log begun) → ComesThrough r it (stands state minds log begun) (stands after kept more spent)
    → ComesBy r items old after kept
ran-partly {r = r} {left = left} {it = it} {state = state} {after = after} {minds = minds} {kept = kept} {log = log} {more = more} {begun = begun} {spent = spent} ran comes =
    let next = stands after kept more spent (ran.effects ++ comes.effects) in
    let rest = map run_item left in
    record {
      scene = next;
      agenda = comes.agenda ++ rest;
      text = refl;
      shelf = refl;
      through = reaches_on ran.through
          (subst (λ s. Reaches r (at s (run_item it ∷ rest)) (at next (comes.agenda ++ rest))) (behind_none state minds log begun ran.effects)
          (reaches_ahead ran.effects rest comes.reaches));
    }

-- no item is left
pub ran-whole : {r : Setup} {items : List Item} {old : Scene} {state : State} {minds : List Mind} {log : List LogEntry} {begun : ℕ}
    → Ran r items [] old (stands state minds log begun)
    → (state ≡ (outcomes r items old).state) × (minds ≡ (outcomes r items old).minds) × (log ≡ (outcomes r items old).log)
ran-whole {r = r} {items = items} {old = old} {state = state} {minds = minds} {log = log} {begun = begun} ran =
    let now = stands state minds log begun ran.effects in
    let same : now ≡ outcomes r items old = ends_once r (at old (map run_item items)) now (outcomes r items old) ran.through (ends-outcomes r items old) in
    (ap (λ s. s.state) same, ap (λ s. s.minds) same, ap (λ s. s.log) same)

-- what stands then is what stood in the run
pub ran-stands : {r : Setup} {items left : List Item} {old : Scene} {state : State} {minds : List Mind} {log : List LogEntry} {begun : ℕ}
    → Ran r items left old (stands state minds log begun) → ComesBy r items old state minds
ran-stands {left = left} {state = state} {minds = minds} {log = log} {begun = begun} ran = record {
  scene = stands state minds log begun ran.effects;
  agenda = map run_item left;
  text = refl;
  shelf = refl;
  through = ran.through;
}

-- before the items nothing of them is done
pub comes-before : (r : Setup) (items : List Item) (old : Scene) → ComesBy r items old old.state old.minds
comes-before r items old = record {
  scene = old;
  agenda = map run_item items;
  text = refl;
  shelf = refl;
  through = reaches_none r (at old (map run_item items));
}

-- the same where the text is told of anew
pub comes-still : (r : Setup) (items : List Item) (old : Scene) (state : State) → state ≡ old.state → ComesBy r items old state old.minds
comes-still r items old state same = subst (λ state. ComesBy r items old state old.minds) (sym same) (comes-before r items old)

-- ---- one item of a list

-- these filters, slots and depth
abbrev pub set_to : List Filter → List ℕ → ℕ → Setup
set_to filters slots depth = record { filters = filters; slots = slots; depth = depth }

-- the item at a place is the first of those that are left
next_item : (items : List Item) (i : ℕ) (it : Item) → i < length items → it ≡ get_or items i it → drop i items ≡ it ∷ drop (i + 1) items
next_item items i it within is = drop_more items i it within ∙ ap (λ one. one ∷ drop (i + 1) items) (sym is)

module _ (used filters : List Filter) (slots : List ℕ) (depth : ℕ) (same : used ≡ filters) {items : List Item} {i : ℕ} {it : Item} {old : Scene}
    {state : State} {minds : List Mind} {log : List LogEntry} {begun : ℕ} (within : i < length items)
    (is : it ≡ get_or items i it) (ran : Ran (set_to filters slots depth) items (drop i items) old (stands state minds log begun)) where
  first_is : Ran (set_to filters slots depth) items (it ∷ drop (i + 1) items) old (stands state minds log begun)
  first_is = subst (λ left. Ran (set_to filters slots depth) items left old (stands state minds log begun)) (next_item items i it within is) ran

  pub turn-next : HasTurn state it
  turn-next = first_is.turns.0

  pub ran-next : {F : Type 0} {takes : Takes F} {first last : F} {after : State} {kept : List Mind} {more : List LogEntry} {spent : ℕ}
      → Runs takes (set_to used slots depth) it (stands state minds log begun) (stands after kept more spent) first last
      → Ran (set_to filters slots depth) items (drop (i + 1) items) old (stands after kept more spent)
  ran-next {takes = takes} {first = first} {last = last} {after = after} {kept = kept} {more = more} {spent = spent} runs =
      ran-more first_is
      (subst (λ (used : List Filter). Runs takes (set_to used slots depth) it (stands state minds log begun) (stands after kept more spent) first last) same runs)

  pub ran-broken : {after : State} {kept : List Mind} {more : List LogEntry} {spent : ℕ}
      → ComesThrough (set_to used slots depth) it (stands state minds log begun) (stands after kept more spent)
      → ComesBy (set_to filters slots depth) items old after kept
  ran-broken {after = after} {kept = kept} {more = more} {spent = spent} comes =
      ran-partly first_is
      (subst (λ (used : List Filter). ComesThrough (set_to used slots depth) it (stands state minds log begun) (stands after kept more spent)) same comes)

-- behind the last item
pub ran-all : {r : Setup} {items : List Item} {i : ℕ} {old : Scene} {state : State} {minds : List Mind} {log : List LogEntry} {begun : ℕ}
    → length items ≤ i → Ran r items (drop i items) old (stands state minds log begun)
    → (state ≡ (outcomes r items old).state) × (minds ≡ (outcomes r items old).minds) × (log ≡ (outcomes r items old).log)
ran-all {r = r} {items = items} {i = i} {old = old} {state = state} {minds = minds} {log = log} {begun = begun} past ran =
    ran-whole (subst (λ left. Ran r items left old (stands state minds log begun)) (drop_all i items past) ran)

-- a list of no items has none at any place
pub none_past : {P : Type 0} {items : List Item} (i : ℕ) → i < length items → items ≡ [] → P
none_past i within none = absurd (omega (arith, ap length none))

-- the slots' places are on the shelf whose watchers have these minds
pub on-shelf : {X Y : Type 0} (f : X → Y) (boxes : List X) (places : List ℕ) → All (λ place. place < length boxes) places
    → All (λ place. place < length (map f boxes)) places
on-shelf f boxes places within = subst (λ n. All (λ place. place < n) places) (sym (length-map boxes f)) within
