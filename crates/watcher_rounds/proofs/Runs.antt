-- Runs of the agenda machine with the effects of the edits that were done, joined.
use Rattle.std.proofs.Common.{◌≡◌, ◌<◌, ◌≤◌, ◌∙◌, Result, Ok, Err, OnErr, OnOk, ℕ, ◌+◌, List, [], ◌∷◌, ◌++◌, map, take, drop, length, get_or, sym, ap, subst, append_assoc, append-nil}
use Rattle.std.proofs.lemmas.List.{map_more, map-append, take_all, take-append-drop}
use Rattle.edit_model.specs.Changed.{Effect}
use Rattle.edit_model.specs.Machine.{Setup, Scene, Task, at, Leads, Passes, Reaches}
use Rattle.edit_model.proofs.MachineRuns.{reaches_none, reaches_on, leads_none, leads_behind, leads_then}
use Rattle.edit_model.specs.declared.entries.LogEntry.{LogEntry}
use Rattle.edit_model.specs.State.{State}
use Rattle.edit_model.specs.Minds.{Mind}
use Rattle.watcher_rounds.specs.Rounds.{stands, Tells, Passed}

-- ---- through here

pub passes_here : (r : Setup) (tasks : List Task) (s : Scene) → Passes r tasks s s
passes_here r tasks s = record { run = λ rest. (tasks ++ rest, reaches_none r (at s (tasks ++ rest))) }

pub passes_on : {r : Setup} {tasks left : List Task} {a b c : Scene} → Leads r tasks left a b → Passes r left b c → Passes r tasks a c
passes_on x y = record { run = λ rest. ((y.run rest).0, reaches_on (x.run rest) (y.run rest).1) }

pub passes_behind : {r : Setup} {tasks : List Task} {a b : Scene} (more : List Task) → Passes r tasks a b → Passes r (tasks ++ more) a b
passes_behind {r = r} {tasks = tasks} {a = a} {b = b} more x = record {
  run = λ rest. (
    (x.run (more ++ rest)).0,
    subst (λ ts. Reaches r (at a ts) (at b (x.run (more ++ rest)).0)) (sym (append_assoc tasks more rest)) (x.run (more ++ rest)).1,
  );
}

-- ---- without a change

pub tells_none : (r : Setup) (tasks : List Task) (old : List Effect → Scene) → Tells r tasks tasks old old
tells_none r tasks old = record { run = λ effects. leads_none r tasks (old effects) }

pub tells_then : {r : Setup} {tasks more left : List Task} {a b c : List Effect → Scene} → Tells r tasks [] a b → Tells r more left b c
    → Tells r (tasks ++ more) left a c
tells_then x y = record { run = λ effects. leads_then (x.run effects) (y.run effects) }

pub tells_behind : {r : Setup} {tasks left : List Task} {a b : List Effect → Scene} (more : List Task) → Tells r tasks left a b
    → Tells r (tasks ++ more) (left ++ more) a b
tells_behind more x = record { run = λ effects. leads_behind more (x.run effects) }

-- one more of the tasks that a list gives
pub tells_more : {X : Type 0} {r : Setup} {a b c : List Effect → Scene} (task : X → Task) (xs : List X) (i : ℕ) (d : X) → i < length xs
    → Tells r (map task (take i xs)) [] a b → Tells r (task (get_or xs i d) ∷ []) [] b c → Tells r (map task (take (i + 1) xs)) [] a c
tells_more {r = r} {a = a} {c = c} task xs i d within first next =
    subst (λ (ts : List Task). Tells r ts [] a c) (sym (map_more task xs i d within)) (tells_then first next)

-- all of them
pub tells_all : {X : Type 0} {r : Setup} {a b : List Effect → Scene} (task : X → Task) (xs : List X) (i : ℕ) → length xs ≤ i
    → Tells r (map task (take i xs)) [] a b → Tells r (map task xs) [] a b
tells_all {r = r} {a = a} {b = b} task xs i past told = subst (λ ys. Tells r (map task ys) [] a b) (take_all i xs past) told

-- ---- passing

pub passed_here : (r : Setup) (tasks : List Task) (old : List Effect → Scene) → Passed r tasks old old
passed_here r tasks old = record {
  effects = [];
  run = λ before. subst (λ effects. Passes r tasks (old before) (old effects)) (sym (append-nil before)) (passes_here r tasks (old before));
}

pub passed_behind : {r : Setup} {tasks : List Task} {a b : List Effect → Scene} (more : List Task) → Passed r tasks a b → Passed r (tasks ++ more) a b
passed_behind more x = record { effects = x.effects; run = λ before. passes_behind more (x.run before) }

pub passed_told : {r : Setup} {tasks left : List Task} {a b c : List Effect → Scene} → Tells r tasks left a b → Passed r left b c → Passed r tasks a c
passed_told x y = record { effects = y.effects; run = λ before. passes_on (x.run before) (y.run before) }

-- some tasks, and then others that come to an early end
pub passed_then : {r : Setup} {tasks more : List Task} {a b c : List Effect → Scene} → Tells r tasks [] a b → Passed r more b c → Passed r (tasks ++ more) a c
passed_then {more = more} x y = record { effects = y.effects; run = λ before. passes_on (leads_behind more (x.run before)) (y.run before) }

-- some of the tasks that a list gives, and then no more
pub passed_among : {X : Type 0} {r : Setup} {a b : List Effect → Scene} (task : X → Task) (xs : List X) (i : ℕ)
    → Tells r (map task (take i xs)) [] a b → Passed r (map task xs) a b
passed_among {r = r} {a = a} {b = b} task xs i told =
    subst (λ (ts : List Task). Passed r ts a b) (sym (map-append task (take i xs) (drop i xs)) ∙ ap (λ ys. map task ys) (take-append-drop i xs))
    (passed_then told (passed_here r (map task (drop i xs)) b))

-- a scene whose minds and log are the same
pub passed_still : {r : Setup} {tasks : List Task} {old : List Effect → Scene} (state : State) (old_minds minds : List Mind) (old_log log : List LogEntry)
    (begun : ℕ)
    → (minds ≡ old_minds) × (log ≡ old_log) → Passed r tasks old (stands state old_minds old_log begun) → Passed r tasks old (stands state minds log begun)
passed_still {r = r} {tasks = tasks} {old = old} state old_minds minds old_log log begun same x =
    subst (λ (ms : List Mind). Passed r tasks old (stands state ms log begun)) (sym same.0)
    (subst (λ (es : List LogEntry). Passed r tasks old (stands state old_minds es begun)) (sym same.1) x)

-- ---- results

pub on_err : {T E P : Type 0} (r : Result T E) → P → OnErr r P
on_err (Ok value) holds = tt
on_err (Err error) holds = holds

pub on_ok : {T E P : Type 0} (r : Result T E) → P → OnOk r P
on_ok (Ok value) holds = holds
on_ok (Err error) holds = tt

-- what follows from what a call gives
pub on_err_then : {T E P Q : Type 0} (r : Result T E) → OnErr r P → (P → Q) → OnErr r Q
on_err_then (Ok value) holds next = tt
on_err_then (Err error) holds next = next holds

pub on_ok_then : {T E P Q : Type 0} (r : Result T E) → OnOk r P → (P → Q) → OnOk r Q
on_ok_then (Ok value) holds next = next holds
on_ok_then (Err error) holds next = tt
