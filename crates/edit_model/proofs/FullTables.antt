-- The tables of sets and replacements where too many spans would stand.
use Rattle.std.proofs.Common.{◌≡◌, ◌≢◌, ◌≤◌, ℕ, ◌+◌, ℤ, ◌||◌, Bool, true, false, cond, length, refl, arith}
use Rattle.std.specs.Prelude.{nat_lt, int_lt}
use Rattle.std.proofs.lemmas.Bool.{ltb-false}
use Rattle.std.proofs.lemmas.Bool.Decides.{nat_tests}
use Rattle.edit_base.specs.declared.kinds.What.{What}
use Rattle.edit_base.specs.declared.rows.Incoming.{Incoming}
use Rattle.edit_base.specs.declared.bounds.TheConstants.Limits.{TEXT, SPANS}
use Rattle.edit_base.specs.declared.verdicts.Verdict.{Verdict}
use Rattle.edit_base.specs.declared.verdicts.Verdict.TheVariants.{Ignored, NoChange, Refused}
use Rattle.edit_base.specs.declared.verdicts.Refusal.TheVariants.{Reserved, Slot, Order, Beyond, Below, ParagraphStart, ParagraphEnd, TooLong, SpansFull, Flags}
use Rattle.edit_model.specs.State.{State, place, ArePlaces}
use Rattle.edit_model.specs.Attached.{is_attached}
use Rattle.edit_model.specs.Replaced.{spliced_length}
use Rattle.edit_model.specs.declared.steps.Step.TheVariants as step
use Rattle.edit_model.specs.Verdicts.{judged, is_kept_id, lacks_slot, goes_beyond, goes_below, breaks_paragraph, is_ignored, brings_reserved, brings_bad_flags, changes_nothing, length_after, span_count_after_set, span_count_after_select, is_selected}
use Rattle.edit_model.specs.Selection.{has_selection}
use Rattle.edit_model.specs.Flags.{is_bad}
use Rattle.edit_model.specs.WellFormed.{is_kept_what}
use Rattle.edit_model.proofs.Tables.{places_pass}

-- a line of another verdict doesn't apply
past : (test : Bool) (it rest : Verdict) → it ≢ Refused SpansFull → cond test it rest ≡ Refused SpansFull → (test ≡ false) × (rest ≡ Refused SpansFull)
past true it rest other is = absurd (other is)
past false it rest other is = (refl, is)

-- the last line applies
last : (test : Bool) (rest : Verdict) → rest ≢ Refused SpansFull → cond test (Refused SpansFull) rest ≡ Refused SpansFull → test ≡ true
last true rest other is = refl
last false rest other is = absurd (other is)

spans_counted : (attached : Bool) (count : ℕ) → count ≤ SPANS
    → nat_lt SPANS (cond attached count (count + 1)) ≡ true → cond attached count (count + 1) ≡ count + 1
spans_counted true count few over = absurd (grind (arith, nat_tests))
spans_counted false count few over = refl

-- a set that is refused since too many spans would stand would have added one
pub full-adds_one : (state : State) (slots id : ℕ) (start end : ℤ) (flags : ℕ) (what : What) → length state.spans ≤ SPANS
    → judged state slots (step.Set id start end flags what) ≡ Refused SpansFull → span_count_after_set state id ≡ length state.spans + 1
unfolding judged
full-adds_one state slots id start end flags what few is =
    let a = past (is_kept_id id || is_kept_what what) (Refused Reserved) _ (λ h. cc) is in
    let b = past (lacks_slot state slots id what) (Refused Slot) _ (λ h. cc) a.1 in
    let c = past (is_bad flags) (Refused Flags) _ (λ h. cc) b.1 in
    let d = past (int_lt end start) (Refused Order) _ (λ h. cc) c.1 in
    let e = past (goes_beyond state start end) (Refused Beyond) _ (λ h. cc) d.1 in
    let f = past (goes_below start end) (Refused Below) _ (λ h. cc) e.1 in
    let g = past (breaks_paragraph state flags start) (Refused ParagraphStart) _ (λ h. cc) f.1 in
    let h = past (breaks_paragraph state flags end) (Refused ParagraphEnd) _ (λ h. cc) g.1 in
    let i = past (is_ignored flags start end) Ignored _ (λ h. cc) h.1 in
    spans_counted (is_attached id state.spans) (length state.spans) few (last (nat_lt SPANS (span_count_after_set state id)) _ (λ h. cc) i.1)

-- a replacement that is refused since too many spans would stand has places in the text, in order, and no text that is too long
pub record IsShort (state : State) (start end : ℤ) (incoming : Incoming) : Type 0 where
  pub places : ArePlaces (length state.units) start end
  pub short : spliced_length (length state.units) (place start) (place end) (length incoming.units) ≤ TEXT

pub full-is_short : (state : State) (slots : ℕ) (start end : ℤ) (incoming : Incoming)
    → judged state slots (step.Replace start end incoming) ≡ Refused SpansFull → IsShort state start end incoming
unfolding judged
full-is_short state slots start end incoming is =
    let a = past (brings_reserved incoming) (Refused Reserved) _ (λ h. cc) is in
    let b = past (brings_bad_flags incoming) (Refused Flags) _ (λ h. cc) a.1 in
    let c = past (int_lt end start) (Refused Order) _ (λ h. cc) b.1 in
    let d = past (goes_beyond state start end) (Refused Beyond) _ (λ h. cc) c.1 in
    let e = past (goes_below start end) (Refused Below) _ (λ h. cc) d.1 in
    let f = past (changes_nothing state start end incoming) NoChange _ (λ h. cc) e.1 in
    let g = past (nat_lt TEXT (length_after state start end incoming)) (Refused TooLong) _ (λ h. cc) f.1 in
    record { places = places_pass (length state.units) start end c.0 d.0 e.0; short = ltb-false _ _ g.0 }

two_counted : (attached : Bool) (count : ℕ) → count ≤ SPANS
    → nat_lt SPANS (cond attached count (count + 2)) ≡ true → cond attached count (count + 2) ≡ count + 2
two_counted true count few over = absurd (grind (arith, nat_tests))
two_counted false count few over = refl

-- a select that is refused since too many spans would stand would have added two
pub full-adds_two : (state : State) (slots : ℕ) (start end : ℤ) → length state.spans ≤ SPANS
    → judged state slots (step.Select start end) ≡ Refused SpansFull → span_count_after_select state ≡ length state.spans + 2
unfolding judged
full-adds_two state slots start end few is =
    let a = past (goes_beyond state start end) (Refused Beyond) _ (λ h. cc) is in
    let b = past (goes_below start end) (Refused Below) _ (λ h. cc) a.1 in
    let c = past (is_selected state start end) NoChange _ (λ h. cc) b.1 in
    two_counted (has_selection state.spans) (length state.spans) few (last (nat_lt SPANS (span_count_after_select state)) _ (λ h. cc) c.1)
