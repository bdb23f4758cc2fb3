-- Runs of the agenda machine, with more effects before them and more tasks behind.
use Rattle.std.proofs.Common.{◌≡◌, ◌∙◌, ℕ, zero, suc, ◌+◌, Bool, true, false, cond, List, [], ◌∷◌, ◌++◌, refl, sym, ap, subst, append_assoc}
use Rattle.edit_model.specs.Changed.{Effect, change_of}
use Rattle.edit_model.specs.Minds.{answer_after, answer_span}
use Rattle.edit_model.specs.Machine.{Setup, Scene, Config, Task, at, run_item, do_rest, make_change, tell_before, tell_changed, tell_after, tell_span, rest_of, resolved_edit, resolved, is_barred, sets_off, edit_logged, with_one_begun, answer_dropped, answer_begun, changed_by, mind_in, task_done, steps, Reaches}
use Rattle.edit_model.proofs.MachineRuns.{reaches_none, reaches_on, reaches_step}

-- effects that were there before
abbrev pub front : List Effect → Scene → Scene
front es s = record { state = s.state; minds = s.minds; log = s.log; begun = s.begun; effects = es ++ s.effects }

-- and tasks that stand behind
abbrev pub ahead : List Effect → List Task → Config → Config
ahead es rest c = at (front es c.scene) (c.agenda ++ rest)

ahead_if : (es : List Effect) (rest : List Task) (test : Bool) (c d : Config) → cond test (ahead es rest c) (ahead es rest d) ≡ ahead es rest (cond test c d)
ahead_if es rest true c d = refl
ahead_if es rest false c d = refl

task_ahead : (r : Setup) (task : Task) (es : List Effect) (s : Scene) (tasks rest : List Task)
    → task_done r task (front es s) (tasks ++ rest) ≡ ahead es rest (task_done r task s tasks)
task_ahead r (run_item it) es s tasks rest =
    ap (at (front es (edit_logged r 0 (resolved s.state it) s))) (sym (append_assoc (sets_off r 0 (resolved s.state it) s.state s.begun) tasks rest))
task_ahead r (do_rest first others depth) es s tasks rest =
    let off : List Task = sets_off r depth (resolved_edit first) s.state s.begun in
    let begun : Scene = front es (with_one_begun (edit_logged r depth (resolved_edit first) s)) in
    ap (λ (ts : List Task). cond (is_barred r.depth depth s.begun) (at (front es (edit_logged r depth (resolved_edit first) s)) (tasks ++ rest)) (at begun ts))
    (sym (append_assoc off (rest_of others depth ++ tasks) rest ∙ ap (λ (ts : List Task). off ++ ts) (append_assoc (rest_of others depth) tasks rest)))
    ∙ ahead_if es rest (is_barred r.depth depth s.begun) (answer_dropped r (resolved_edit first) depth s tasks) (answer_begun r (resolved_edit first) others depth s tasks)
task_ahead r (make_change asked) es s tasks rest =
    ap (λ (effects : List Effect). at (record { state = (changed_by asked s).state; minds = s.minds; log = s.log; begun = s.begun; effects = effects }) (tasks ++ rest))
    (append_assoc es s.effects (change_of s.state asked ∷ []))
task_ahead r (tell_before slot event) es s tasks rest = refl
task_ahead r (tell_changed slot event) es s tasks rest = refl
task_ahead r (tell_after slot event) es s tasks rest =
    ap (at (front es (task_done r (tell_after slot event) s []).scene))
    (sym (append_assoc (rest_of (answer_after (mind_in r slot s) event s.state.units) (event.depth + 1)) tasks rest))
task_ahead r (tell_span slot event) es s tasks rest =
    ap (at (front es (task_done r (tell_span slot event) s []).scene))
    (sym (append_assoc (rest_of (answer_span (mind_in r slot s) event s.state.units) (event.depth + 1)) tasks rest))

steps_ahead : (r : Setup) (es : List Effect) (rest : List Task) (n : ℕ) (s : Scene) (tasks : List Task)
    → Reaches r (ahead es rest (at s tasks)) (ahead es rest (steps r n (at s tasks)))
steps_ahead r es rest zero s tasks = reaches_none r (ahead es rest (at s tasks))
steps_ahead r es rest (suc n) s [] = steps_ahead r es rest n s []
steps_ahead r es rest (suc n) s (task ∷ tasks) =
    reaches_on (reaches_step (task_ahead r task es s tasks rest)) (steps_ahead r es rest n (task_done r task s tasks).scene (task_done r task s tasks).agenda)

pub reaches_ahead : {r : Setup} {old new : Scene} {tasks left : List Task} (es : List Effect) (rest : List Task)
    → Reaches r (at old tasks) (at new left) → Reaches r (at (front es old) (tasks ++ rest)) (at (front es new) (left ++ rest))
reaches_ahead {r = r} {old = old} {tasks = tasks} es rest reaches =
    subst (λ c. Reaches r (ahead es rest (at old tasks)) (ahead es rest c)) reaches.is (steps_ahead r es rest reaches.count old tasks)
