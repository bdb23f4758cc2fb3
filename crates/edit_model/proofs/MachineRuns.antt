-- Runs of the agenda machine, joined.
use Rattle.std.proofs.Common.{◌≡◌, ◌∙◌, ℕ, zero, suc, ◌+◌, ◌≢◌, List, [], ◌∷◌, ◌++◌, refl, sym, ap, subst, append_assoc, arith}
use Rattle.edit_base.specs.declared.verdicts.Verdict.{Verdict}
use Rattle.edit_base.specs.declared.verdicts.Verdict.TheVariants.{Done, NoChange, Ignored, Absent, Refused}
use Rattle.edit_model.specs.declared.items.Item.{Item}
use Rattle.edit_model.specs.Changed.{on_done}
use Rattle.edit_model.specs.Machine.{Setup, Scene, Config, Task, at, resolved, verdict_at, edit_logged, task_done, step, steps, Reaches, Leads, Ends}

-- ---- steps

steps_by : (r : Setup) (m n : ℕ) (c : Config) → m ≡ n → steps r m c ≡ steps r n c
steps_by r m n c same = ap (λ k. steps r k c) same

steps_more : (r : Setup) (m n : ℕ) (c : Config) → steps r (m + n) c ≡ steps r n (steps r m c)
steps_more r zero n c = steps_by r (0 + n) n c (omega arith)
steps_more r (suc m) n c = steps_by r (suc m + n) (suc (m + n)) c (omega arith) ∙ steps_more r m n (step r c)

-- behind the last task nothing happens
steps_at_end : (r : Setup) (n : ℕ) (s : Scene) → steps r n (at s []) ≡ at s []
steps_at_end r zero s = refl
steps_at_end r (suc n) s = steps_at_end r n s

pub reaches_none : (r : Setup) (c : Config) → Reaches r c c
reaches_none r c = record { count = 0; is = refl }

pub reaches_on : {r : Setup} {a b c : Config} → Reaches r a b → Reaches r b c → Reaches r a c
reaches_on {r = r} {a = a} {b = b} {c = c} x y =
    record { count = x.count + y.count; is = steps_more r x.count y.count a ∙ (ap (λ d. steps r y.count d) x.is ∙ y.is) }

pub reaches_step : {r : Setup} {c d : Config} → step r c ≡ d → Reaches r c d
reaches_step is = record { count = 1; is = is }

-- ---- what leads on

pub leads_none : (r : Setup) (tasks : List Task) (s : Scene) → Leads r tasks tasks s s
leads_none r tasks s = record { run = λ rest. reaches_none r (at s (tasks ++ rest)) }

pub leads_on : {r : Setup} {tasks next left : List Task} {a b c : Scene} → Leads r tasks next a b → Leads r next left b c → Leads r tasks left a c
leads_on x y = record { run = λ rest. reaches_on (x.run rest) (y.run rest) }

-- the same with more tasks behind
pub leads_behind : {r : Setup} {tasks left : List Task} {a b : Scene} (more : List Task) → Leads r tasks left a b → Leads r (tasks ++ more) (left ++ more) a b
leads_behind {r = r} {tasks = tasks} {left = left} {a = a} {b = b} more x = record {
  run = λ rest. subst (λ ts. Reaches r (at a ts) (at b ((left ++ more) ++ rest))) (sym (append_assoc tasks more rest))
      (subst (λ ts. Reaches r (at a (tasks ++ (more ++ rest))) (at b ts)) (sym (append_assoc left more rest)) (x.run (more ++ rest)));
}

-- some tasks and then others
pub leads_then : {r : Setup} {tasks more left : List Task} {a b c : Scene} → Leads r tasks [] a b → Leads r more left b c → Leads r (tasks ++ more) left a c
leads_then {more = more} x y = leads_on (leads_behind more x) y

-- one task
pub leads_first : {r : Setup} {task : Task} {left : List Task} {a b : Scene}
    → ((rest : List Task) → task_done r task a rest ≡ at b (left ++ rest)) → Leads r (task ∷ []) left a b
leads_first is = record { run = λ rest. reaches_step (is rest) }

-- ---- in one way

pub ends_once : (r : Setup) (c : Config) (new other : Scene) → Reaches r c (at new []) → Reaches r c (at other []) → new ≡ other
ends_once r c new other x y =
    ap (λ d. d.scene) (sym (steps_more r x.count y.count c ∙ (ap (λ d. steps r y.count d) x.is ∙ steps_at_end r y.count new))
    ∙ (steps_by r (x.count + y.count) (y.count + x.count) c (omega arith)
    ∙ (steps_more r y.count x.count c ∙ (ap (λ d. steps r x.count d) y.is ∙ steps_at_end r x.count other))))

-- ---- edits that aren't done

pub nothing_unless_done : {X : Type 0} (verdict : Verdict) (done kept : X) → verdict ≢ Done → on_done verdict done kept ≡ kept
nothing_unless_done Done done kept other = absurd (other refl)
nothing_unless_done NoChange done kept other = refl
nothing_unless_done Ignored done kept other = refl
nothing_unless_done Absent done kept other = refl
nothing_unless_done (Refused refusal) done kept other = refl

-- an edit of a command that isn't done is logged, and that is all
pub ends_logged : (r : Setup) (it : Item) (old : Scene) → verdict_at r 0 (resolved old.state it) old.state old.begun ≢ Done
    → Ends r it old (edit_logged r 0 (resolved old.state it) old)
ends_logged r it old other =
    reaches_step (ap (λ ts. at (edit_logged r 0 (resolved old.state it) old) (ts ++ []))
    (nothing_unless_done (verdict_at r 0 (resolved old.state it) old.state old.begun) _ [] other))
