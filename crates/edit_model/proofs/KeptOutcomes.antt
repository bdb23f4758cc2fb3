-- What every nested edit keeps of a state, the run of an item keeps.
use Rattle.std.proofs.Common.{◌≡◌, ◌≢◌, ℕ, zero, suc, ◌+◌, Bool, true, false, cond, List, [], ◌∷◌, length, refl, sym, subst}
use Rattle.std.proofs.lemmas.Bool.{cond_both}
use Rattle.edit_base.specs.declared.edits.Edit.{Edit}
use Rattle.edit_base.specs.declared.verdicts.Verdict.{Verdict}
use Rattle.edit_base.specs.declared.verdicts.Verdict.TheVariants.{Done, NoChange, Ignored, Absent, Refused}
use Rattle.edit_base.specs.declared.verdicts.Refusal.TheVariants.{Depth, Budget}
use Rattle.edit_model.specs.declared.items.Item.{Item}
use Rattle.edit_model.specs.declared.events.TextEvent.{TextEvent}
use Rattle.edit_model.specs.declared.steps.Step.{Step}
use Rattle.edit_model.specs.State.{State}
use Rattle.edit_model.specs.Verdicts.{judged}
use Rattle.edit_model.specs.Changed.{stepped, on_done}
use Rattle.edit_model.specs.Events.{listeners, text_event, span_callbacks}
use Rattle.edit_model.specs.Machine.{Setup, Scene, resolved_edit, resolved, is_too_deep, is_too_many, is_barred, judged_at, as_brought, verdict_at, edit_logged, with_one_begun, changed_by}
use Rattle.edit_model.specs.Outcome.{Answered, told_each, before_told, changed_told, after_told, span_told, behind_change, behind_edit, behind_answer, answered_at, outcome}

-- what holds of a scene holds of it when each was told
told_keeps : {X : Type 0} (Q : Scene → Type 0) (tell : X → Scene → Scene) → ((x : X) (s : Scene) → Q s → Q (tell x s)) → (xs : List X) (s : Scene) → Q s
    → Q (told_each tell xs s)
told_keeps Q tell each [] s holds = holds
told_keeps Q tell each (x ∷ xs) s holds = told_keeps Q tell each xs (tell x s) (each x s holds)

-- what an edit that is done leads to, and what stands where it isn't
by_done : (Q : Scene → Type 0) (verdict : Verdict) (done kept : Scene) → (verdict ≡ Done → Q done) → (verdict ≢ Done → Q kept) → Q (on_done verdict done kept)
by_done Q Done done kept changed same = changed refl
by_done Q NoChange done kept changed same = same (λ is. cc)
by_done Q Ignored done kept changed same = same (λ is. cc)
by_done Q Absent done kept changed same = same (λ is. cc)
by_done Q (Refused refusal) done kept changed same = same (λ is. cc)

past_barred : (deep many : Bool) (verdict : Verdict) → cond deep (Refused Depth) (cond many (Refused Budget) verdict) ≡ Done → verdict ≡ Done
past_barred true many verdict is = absurd (cc)
past_barred false true verdict is = absurd (cc)
past_barred false false verdict is = is

-- an edit that is done at its depth is done
pub done_anywhere : (r : Setup) (depth : ℕ) (asked : Step) (state : State) (begun : ℕ) → verdict_at r depth asked state begun ≡ Done
    → judged state (length r.slots) (as_brought r asked state) ≡ Done
unfolding judged_at
done_anywhere r depth asked state begun is =
    past_barred (is_too_deep r.depth depth) (is_too_many depth begun) (judged state (length r.slots) (as_brought r asked state)) is

-- every edit that a watcher may answer keeps it
pub record IsKept (r : Setup) (P : State → Type 0) : Type 0 where
  pub edit : (state : State) (it : Edit) → judged state (length r.slots) (as_brought r (resolved_edit it) state) ≡ Done → P state
      → P (stepped state (as_brought r (resolved_edit it) state))

module _ (r : Setup) (P : State → Type 0) (kept : IsKept r P) where
  abbrev KeepsAnswered : Answered → Type 0
  KeepsAnswered answered = (edits : List Edit) (s : Scene) → P s.state → P (answered edits s).state

  keeps_change : (depth : ℕ) (asked : Step) (answered : Answered) (state : State) (s : Scene) → KeepsAnswered answered → s.state ≡ state
      → P (stepped state asked) → P (behind_change r depth asked answered state s).state
  keeps_change depth asked answered state s keeps same holds =
      let event : TextEvent = text_event depth asked in
      let first = told_each (before_told r event) (listeners state asked) s in
      let before : first.state ≡ state = told_keeps (λ t. t.state ≡ state) (before_told r event) (λ slot t is. is) (listeners state asked) s same in
      told_keeps (λ t. P t.state) (span_told r answered) (λ told t holds. keeps _ _ holds) (span_callbacks state depth asked) _
      (told_keeps (λ t. P t.state) (after_told r event answered) (λ slot t holds. keeps _ _ holds) (listeners state asked) _
      (told_keeps (λ t. P t.state) (changed_told r event) (λ slot t holds. holds) (listeners state asked) (changed_by asked first)
      (subst (λ one. P (stepped one asked)) (sym before) holds)))

  keeps_edit : (depth : ℕ) (asked : Step) (answered : Answered) (judged_in s : Scene) → KeepsAnswered answered → s.state ≡ judged_in.state
      → (judged judged_in.state (length r.slots) (as_brought r asked judged_in.state) ≡ Done → P (stepped judged_in.state (as_brought r asked judged_in.state)))
      → (verdict_at r depth asked judged_in.state judged_in.begun ≢ Done → P s.state)
      → P (behind_edit r depth asked answered judged_in s).state
  keeps_edit depth asked answered judged_in s keeps same done other =
      by_done (λ t. P t.state) (verdict_at r depth asked judged_in.state judged_in.begun) (behind_change r depth (as_brought r asked judged_in.state) answered judged_in.state s) s
      (λ is. keeps_change depth (as_brought r asked judged_in.state) answered judged_in.state s keeps same
      (done (done_anywhere r depth asked judged_in.state judged_in.begun is)))
      other

  keeps_answer : (depth : ℕ) (answered : Answered) → KeepsAnswered answered → KeepsAnswered (behind_answer r depth answered)
  keeps_answer depth answered keeps [] s holds = holds
  keeps_answer depth answered keeps (first ∷ others) s holds =
      let begun = with_one_begun (edit_logged r depth (resolved_edit first) s) in
      cond_both (is_barred r.depth depth s.begun) (edit_logged r depth (resolved_edit first) s)
      (behind_answer r depth answered others (behind_edit r depth (resolved_edit first) answered s begun))
      (λ t. P t.state)
      (λ barred. holds)
      (λ let_in. keeps_answer depth answered keeps others (behind_edit r depth (resolved_edit first) answered s begun)
      (keeps_edit depth (resolved_edit first) answered s begun keeps refl (λ is. kept.edit s.state first is holds) (λ is. holds)))

  keeps_answered : (more depth : ℕ) → KeepsAnswered (answered_at r more depth)
  keeps_answered zero depth = keeps_answer depth (λ deeper t. t) (λ edits s holds. holds)
  keeps_answered (suc more) depth = keeps_answer depth (answered_at r more (depth + 1)) (keeps_answered more (depth + 1))

  -- what an item's own edit leads to, and every nested edit keeps
  pub kept-outcome : (it : Item) (s : Scene)
      → (judged s.state (length r.slots) (as_brought r (resolved s.state it) s.state) ≡ Done → P (stepped s.state (as_brought r (resolved s.state it) s.state)))
      → (verdict_at r 0 (resolved s.state it) s.state s.begun ≢ Done → P s.state)
      → P (outcome r it s).state
  unfolding outcome
  kept-outcome it s done other =
      keeps_edit 0 (resolved s.state it) (answered_at r r.depth 1) s (edit_logged r 0 (resolved s.state it) s) (keeps_answered r.depth 1) refl done other
