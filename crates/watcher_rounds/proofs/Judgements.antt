-- Verdicts of edits that may begin, and of those that may not.
use Rattle.std.proofs.Common.{◌≡◌, ◌∙◌, ◌||◌, ◌≤◌, ℕ, ℤ, pos, Bool, true, false, cond, length, refl, sym, ap}
use Rattle.edit_base.specs.declared.rows.Incoming.{Incoming}
use Rattle.edit_base.specs.declared.verdicts.Verdict.{Verdict}
use Rattle.edit_base.specs.declared.verdicts.Verdict.TheVariants.{Done, Refused}
use Rattle.edit_base.specs.declared.verdicts.Refusal.TheVariants.{Depth, Budget}
use Rattle.edit_model.specs.declared.steps.Step.{Step}
use Rattle.edit_model.specs.declared.steps.Step.TheVariants as ask
use Rattle.edit_model.specs.State.{State}
use Rattle.edit_model.specs.Verdicts.{judged, mark_lines}
use Rattle.edit_model.specs.Log.{logged}
use Rattle.edit_model.proofs.Tables.{none_applies}
use Rattle.edit_model.proofs.Selections.{places_within}
use Rattle.edit_model.specs.Machine.{Setup, is_too_deep, is_too_many, is_barred, judged_at, as_brought, verdict_at}

-- a replacement's verdict doesn't depend on the number of slots
pub any_slots : (state : State) (slots : ℕ) (start end : ℤ) (incoming : Incoming) (verdict : Verdict)
    → judged state slots (ask.Replace start end incoming) ≡ verdict → judged state 0 (ask.Replace start end incoming) ≡ verdict
unfolding judged
any_slots state slots start end incoming verdict is = is

-- a mark that is done lies in the text
pub marked_within : (state : State) (slots start end : ℕ) → judged state slots (ask.Mark start end) ≡ Done → end ≤ length state.units
unfolding judged
marked_within state slots start end done =
    let n = none_applies (mark_lines state start end) refl done in (places_within (length state.units) (pos start) (pos end) n.0).1

past_both : (deep many : Bool) (other : Verdict) → (deep || many) ≡ false → cond deep (Refused Depth) (cond many (Refused Budget) other) ≡ other
past_both true many other none = absurd (cc)
past_both false true other none = absurd (cc)
past_both false false other none = refl

-- an edit that isn't barred is judged as one that isn't nested
pub judged-let_in : (state : State) (slots limit depth begun : ℕ) (asked : Step) → is_barred limit depth begun ≡ false
    → judged_at state slots limit depth begun asked ≡ judged state slots asked
unfolding is_barred judged_at
judged-let_in state slots limit depth begun asked none =
    past_both (is_too_deep limit depth) (is_too_many depth begun) (judged state slots asked) none

pub logged-let_in : (state : State) (slots limit depth begun : ℕ) (one asked : Step) → one ≡ asked → is_barred limit depth begun ≡ false
    → logged state one (judged state slots one) ≡ logged state asked (judged_at state slots limit depth begun asked)
logged-let_in state slots limit depth begun one asked same none =
    ap (λ (it : Step). logged state it (judged state slots it)) same
    ∙ ap (λ (verdict : Verdict). logged state asked verdict) (sym (judged-let_in state slots limit depth begun asked none))

-- a command's own edit isn't nested
pub own-let_in : (limit begun : ℕ) → is_barred limit 0 begun ≡ false
unfolding is_barred
own-let_in limit begun = refl

-- the verdict of an edit that isn't barred is that of the machine
pub verdict-found : (r : Setup) (depth : ℕ) (one asked found : Step) (state : State) (begun : ℕ) (verdict : Verdict) → is_barred r.depth depth begun ≡ false
    → one ≡ asked → found ≡ as_brought r one state → verdict ≡ judged state (length r.slots) found → verdict ≡ verdict_at r depth asked state begun
verdict-found r depth one asked found state begun verdict let_in asks is judges =
    judges ∙ (ap (λ (it : Step). judged state (length r.slots) it) (is ∙ ap (λ (it : Step). as_brought r it state) asks)
    ∙ sym (judged-let_in state (length r.slots) r.depth depth begun (as_brought r asked state) let_in))
