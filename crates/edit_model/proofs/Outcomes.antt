-- The agenda machine leads to what an item comes to.
use Rattle.std.proofs.Common.{◌≡◌, ◌∙◌, ℕ, zero, suc, ◌+◌, ◌<◌, Bool, true, false, cond, List, [], ◌∷◌, ◌++◌, map, refl, sym, ap, subst, append_assoc, append-nil, arith}
use Rattle.std.specs.List.{AllByRecursion}
use Rattle.std.proofs.lemmas.Bool.Decides.{nat_tests}
use Rattle.edit_base.specs.declared.edits.Edit.{Edit}
use Rattle.edit_base.specs.declared.verdicts.Verdict.{Verdict}
use Rattle.edit_base.specs.declared.verdicts.Verdict.TheVariants.{Done, NoChange, Ignored, Absent, Refused}
use Rattle.edit_model.specs.declared.items.Item.{Item}
use Rattle.edit_model.specs.declared.events.TextEvent.{TextEvent}
use Rattle.edit_model.specs.declared.events.SpanCallback.{SpanCallback}
use Rattle.edit_model.specs.declared.steps.Step.{Step}
use Rattle.edit_model.specs.declared.steps.Step.TheVariants as edit_step
use Rattle.edit_model.specs.State.{State}
use Rattle.edit_model.specs.Changed.{on_done}
use Rattle.edit_model.specs.Minds.{answer_after, answer_span}
use Rattle.edit_model.specs.Events.{listeners, text_event, span_callbacks}
use Rattle.edit_model.specs.Machine.{Setup, Scene, Task, at, run_item, do_rest, make_change, tell_before, tell_changed, tell_after, tell_span, rest_of, resolved_edit, resolved, is_barred, verdict_at, as_brought, events, sets_off, edit_logged, with_one_begun, answer_begun, changed_by, mind_in, Reaches, Leads, Ends}
use Rattle.edit_model.specs.Outcome.{Answered, told_each, before_told, changed_told, after_told, span_told, behind_change, behind_edit, behind_answer, answered_at, outcome, outcomes}
use Rattle.edit_model.proofs.SpanLists.{all_each, all-weaker}
use Rattle.edit_model.proofs.SpanEvents.{HasDepth, depth-span_callbacks}
use Rattle.edit_model.proofs.MachineRuns.{leads_none, leads_on, leads_then, leads_first}

-- some tasks lead from every scene to what a function makes of it
abbrev Makes : Setup → List Task → (Scene → Scene) → Type 0
Makes r tasks f = (s : Scene) → Leads r tasks [] s (f s)

makes_all : {X : Type 0} (r : Setup) (task : X → Task) (tell : X → Scene → Scene) (xs : List X)
    → AllByRecursion (λ x. Makes r (task x ∷ []) (tell x)) xs → Makes r (map task xs) (told_each tell xs)
makes_all r task tell [] each s = leads_none r [] s
makes_all r task tell (x ∷ xs) each s = leads_then (each.0 s) (makes_all r task tell xs each.1 (tell x s))

makes_each : (r : Setup) (task : ℕ → Task) (tell : ℕ → Scene → Scene) → ((slot : ℕ) → Makes r (task slot ∷ []) (tell slot))
    → (slots : List ℕ) → Makes r (map task slots) (told_each tell slots)
makes_each r task tell each slots = makes_all r task tell slots (all_each (λ slot. Makes r (task slot ∷ []) (tell slot)) each slots)

-- an event has the depth of its edit
pub depth-text_event : (depth : ℕ) (asked : Step) → (text_event depth asked).depth ≡ depth
unfolding text_event
depth-text_event depth (edit_step.Replace start end incoming) = refl
depth-text_event depth (edit_step.Set id start end flags what) = refl
depth-text_event depth (edit_step.Remove id) = refl
depth-text_event depth (edit_step.Select start end) = refl
depth-text_event depth edit_step.Deselect = refl
depth-text_event depth edit_step.Drop = refl
depth-text_event depth (edit_step.Mark start end) = refl

-- the answers at a depth lead to what a function makes of them
abbrev AnswersMake : Setup → ℕ → Answered → Type 0
AnswersMake r depth answered = (edits : List Edit) → Makes r (rest_of edits depth) (answered edits)

makes_before : (r : Setup) (event : TextEvent) (slot : ℕ) → Makes r (tell_before slot event ∷ []) (before_told r event slot)
makes_before r event slot s = leads_first {left = []} (λ rest. refl)

makes_changed : (r : Setup) (event : TextEvent) (slot : ℕ) → Makes r (tell_changed slot event ∷ []) (changed_told r event slot)
makes_changed r event slot s = leads_first {left = []} (λ rest. refl)

makes_change : (r : Setup) (asked : Step) → Makes r (make_change asked ∷ []) (changed_by asked)
makes_change r asked s = leads_first {left = []} (λ rest. refl)

makes_after : (r : Setup) (event : TextEvent) (answered : Answered) → AnswersMake r (event.depth + 1) answered → (slot : ℕ)
    → Makes r (tell_after slot event ∷ []) (after_told r event answered slot)
makes_after r event answered makes slot s =
    leads_on (leads_first {left = rest_of (answer_after (mind_in r slot s) event s.state.units) (event.depth + 1)} (λ rest. refl))
    (makes (answer_after (mind_in r slot s) event s.state.units) _)

makes_span : (r : Setup) (depth : ℕ) (answered : Answered) → AnswersMake r (depth + 1) answered → (told : SpanCallback) → told.event.depth ≡ depth
    → Makes r (tell_span told.slot told.event ∷ []) (span_told r answered told)
makes_span r depth answered makes told is s =
    let edits = answer_span (mind_in r told.slot s) told.event s.state.units in
    leads_on (leads_first {left = rest_of edits (told.event.depth + 1)} (λ rest. refl))
    (subst (λ d. AnswersMake r (d + 1) answered) (sym is) makes edits _)

makes_spans : (r : Setup) (depth : ℕ) (answered : Answered) → AnswersMake r (depth + 1) answered → (told : List SpanCallback)
    → AllByRecursion (HasDepth depth) told → Makes r (map (λ one. tell_span one.slot one.event) told) (told_each (span_told r answered) told)
makes_spans r depth answered makes told deep =
    makes_all r (λ one. tell_span one.slot one.event) (span_told r answered) told
    (all-weaker (HasDepth depth) _ (makes_span r depth answered makes) told deep)

makes_events : (r : Setup) (depth : ℕ) (asked : Step) (answered : Answered) (state : State) → AnswersMake r (depth + 1) answered
    → Makes r (events state depth asked) (behind_change r depth asked answered state)
makes_events r depth asked answered state makes s =
    let event = text_event depth asked in
    let slots = listeners state asked in
    leads_then (makes_each r (λ slot. tell_before slot event) (before_told r event) (makes_before r event) slots s)
    (leads_then (makes_change r asked _)
    (leads_then (makes_each r (λ slot. tell_changed slot event) (changed_told r event) (makes_changed r event) slots _)
    (leads_then (makes_each r (λ slot. tell_after slot event) (after_told r event answered)
    (makes_after r event answered (subst (λ d. AnswersMake r (d + 1) answered) (sym (depth-text_event depth asked)) makes)) slots _)
    (makes_spans r depth answered makes (span_callbacks state depth asked) (depth-span_callbacks state depth asked) _))))

-- what an edit sets off, whatever its verdict
makes_if_done : (r : Setup) (verdict : Verdict) (tasks : List Task) (done s : Scene) → Leads r tasks [] s done
    → Leads r (on_done verdict tasks []) [] s (on_done verdict done s)
makes_if_done r Done tasks done s leads = leads
makes_if_done r NoChange tasks done s leads = leads_none r [] s
makes_if_done r Ignored tasks done s leads = leads_none r [] s
makes_if_done r Absent tasks done s leads = leads_none r [] s
makes_if_done r (Refused refusal) tasks done s leads = leads_none r [] s

makes_edit : (r : Setup) (depth : ℕ) (asked : Step) (answered : Answered) (judged_in s : Scene) → AnswersMake r (depth + 1) answered
    → Leads r (sets_off r depth asked judged_in.state judged_in.begun) [] s (behind_edit r depth asked answered judged_in s)
makes_edit r depth asked answered judged_in s makes =
    makes_if_done r (verdict_at r depth asked judged_in.state judged_in.begun) (events judged_in.state depth (as_brought r asked judged_in.state))
    (behind_change r depth (as_brought r asked judged_in.state) answered judged_in.state s) s
    (makes_events r depth (as_brought r asked judged_in.state) answered judged_in.state makes s)

-- the first edit of an answer, by whether it is barred
abbrev first_made : Setup → Edit → List Edit → ℕ → Answered → Bool → Scene → Scene
first_made r first others depth answered barred s =
    cond barred (edit_logged r depth (resolved_edit first) s)
    (behind_answer r depth answered others (behind_edit r depth (resolved_edit first) answered s (with_one_begun (edit_logged r depth (resolved_edit first) s))))

makes_first : (r : Setup) (first : Edit) (others : List Edit) (depth : ℕ) (answered : Answered) (s : Scene) (barred : Bool)
    → is_barred r.depth depth s.begun ≡ barred → (barred ≡ false → AnswersMake r (depth + 1) answered)
    → Makes r (rest_of others depth) (behind_answer r depth answered others)
    → Leads r (do_rest first others depth ∷ []) [] s (first_made r first others depth answered barred s)
makes_first r first others depth answered s true is deeper behind =
    leads_first {left = []} {b = edit_logged r depth (resolved_edit first) s}
    (λ rest. ap (λ b. cond b (at (edit_logged r depth (resolved_edit first) s) rest) (answer_begun r (resolved_edit first) others depth s rest)) is)
makes_first r first others depth answered s false is deeper behind =
    leads_on (leads_first {left = sets_off r depth (resolved_edit first) s.state s.begun ++ rest_of others depth}
    {b = with_one_begun (edit_logged r depth (resolved_edit first) s)}
    (λ rest. ap (λ b. cond b (at (edit_logged r depth (resolved_edit first) s) rest) (answer_begun r (resolved_edit first) others depth s rest)) is
    ∙ ap (λ ts. at (with_one_begun (edit_logged r depth (resolved_edit first) s)) ts)
    (sym (append_assoc (sets_off r depth (resolved_edit first) s.state s.begun) (rest_of others depth) rest))))
    (leads_then (makes_edit r depth (resolved_edit first) answered s _ (deeper refl)) (behind _))

makes_answer : (r : Setup) (depth : ℕ) (answered : Answered)
    → ((s : Scene) → is_barred r.depth depth s.begun ≡ false → AnswersMake r (depth + 1) answered) → AnswersMake r depth (behind_answer r depth answered)
makes_answer r depth answered deeper [] s = leads_none r [] s
makes_answer r depth answered deeper (first ∷ others) s =
    makes_first r first others depth answered s (is_barred r.depth depth s.begun) refl (λ let_in. deeper s let_in)
    (λ t. makes_answer r depth answered deeper others t)

-- an edit that is too deep is barred
barred_deep : (limit depth begun : ℕ) → limit < depth → is_barred limit depth begun ≡ true
unfolding is_barred
barred_deep limit depth begun deep = grind (arith, nat_tests)

not_both : {b : Bool} → b ≡ true → b ≡ false → ⊥
not_both holds fails = cc

-- answers, by how much deeper they may go
makes_answered : (r : Setup) (more depth : ℕ) → r.depth < depth + more → AnswersMake r depth (answered_at r more depth)
makes_answered r zero depth deep =
    makes_answer r depth (λ deeper t. t) (λ s let_in. absurd (not_both (barred_deep r.depth depth s.begun (omega (arith, deep))) let_in))
makes_answered r (suc more) depth deep =
    makes_answer r depth (answered_at r more (depth + 1)) (λ s let_in. makes_answered r more (depth + 1) (omega (arith, deep)))

pub leads-outcome : (r : Setup) (it : Item) (old : Scene) → Leads r (run_item it ∷ []) [] old (outcome r it old)
unfolding outcome
leads-outcome r it old =
    leads_on (leads_first {left = sets_off r 0 (resolved old.state it) old.state old.begun} {b = edit_logged r 0 (resolved old.state it) old} (λ rest. refl))
    (makes_edit r 0 (resolved old.state it) (answered_at r r.depth 1) old _ (makes_answered r r.depth 1 (omega arith)))

pub ends-outcome : (r : Setup) (it : Item) (old : Scene) → Ends r it old (outcome r it old)
ends-outcome r it old = (leads-outcome r it old).run []

pub every_run_ends : (r : Setup) (it : Item) (old : Scene) → (new : Scene) × Ends r it old new
every_run_ends r it old = (outcome r it old, ends-outcome r it old)

-- the items of a command, one behind the other
pub ends-outcomes : (r : Setup) (items : List Item) (old : Scene) → Reaches r (at old (map run_item items)) (at (outcomes r items old) [])
ends-outcomes r items old =
    subst (λ tasks. Reaches r (at old tasks) (at (outcomes r items old) [])) (append-nil (map run_item items))
    ((makes_all r run_item (outcome r) items (all_each (λ it. Makes r (run_item it ∷ []) (outcome r it)) (leads-outcome r) items) old).run [])
