-- The first line of a table that applies, and what the tests of places say.
use Rattle.std.proofs.Common.{◌≡◌, ℕ, ℤ, pos, negsuc, Bool, true, false, cond, ltb, List, [], ◌∷◌, ◌&&◌, ◌||◌, refl, sym, subst, arith}
use Rattle.std.proofs.lemmas.Int.{ints}
use Rattle.std.specs.Prelude.{◌≤ℤ◌, int_lt}
use Rattle.std.proofs.lemmas.Bool.{and_parts, or_parts, ltb-false}
use Rattle.edit_base.specs.declared.verdicts.Verdict.{Verdict}
use Rattle.edit_base.specs.declared.verdicts.Verdict.TheVariants.{Done, NoChange, Ignored, Absent, Refused}
use Rattle.edit_model.specs.State.{place, ArePlaces}
use Rattle.edit_model.specs.Verdicts.{first_of}

-- the verdict isn't done
abbrev pub leaves_undone : Verdict → Bool
leaves_undone Done = false
leaves_undone NoChange = true
leaves_undone Ignored = true
leaves_undone Absent = true
leaves_undone (Refused refusal) = true

abbrev pub all_leave_undone : List (Bool × Verdict) → Bool
all_leave_undone [] = true
all_leave_undone (line ∷ lines) = leaves_undone line.1 && all_leave_undone lines

-- no line applies
abbrev pub NoneApplies : List (Bool × Verdict) → Type 0
NoneApplies [] = Unit {0}
NoneApplies (line ∷ lines) = (line.0 ≡ false) × NoneApplies lines

past : (test : Bool) (verdict rest : Verdict) → leaves_undone verdict ≡ true → cond test verdict rest ≡ Done → (test ≡ false) × (rest ≡ Done)
past true Done rest undone is_done = absurd (cc)
past true NoChange rest undone is_done = absurd (cc)
past true Ignored rest undone is_done = absurd (cc)
past true Absent rest undone is_done = absurd (cc)
past true (Refused refusal) rest undone is_done = absurd (cc)
past false verdict rest undone is_done = (refl, is_done)

-- where the answer is done no line applies
pub none_applies : (lines : List (Bool × Verdict)) → all_leave_undone lines ≡ true → first_of lines ≡ Done → NoneApplies lines
none_applies [] undone is_done = tt
none_applies (line ∷ lines) undone is_done =
    let u = and_parts (leaves_undone line.1) (all_leave_undone lines) undone in
    let p = past line.0 line.1 (first_of lines) u.0 is_done in
    (p.0, none_applies lines u.1 p.1)

-- ---- places

pub places_pass : (last : ℕ) (start end : ℤ) → int_lt end start ≡ false → (int_lt (pos last) start || int_lt (pos last) end) ≡ false
    → (int_lt start (pos 0) || int_lt end (pos 0)) ≡ false → ArePlaces last start end
places_pass last (pos s) (pos e) ordered beyond below = record {
  starts = refl;
  ends = refl;
  ordered = ltb-false _ _ ordered;
  within = ltb-false _ _ (or_parts (ltb last s) (ltb last e) beyond).1;
}
places_pass last (pos s) (negsuc e) ordered beyond below = absurd (cc)
places_pass last (negsuc s) end ordered beyond below = absurd (cc)

-- the same of numbers with sign
pub least_place : (last : ℕ) (start end : ℤ) → ArePlaces last start end → pos 0 ≤ℤ start
least_place last start end places = subst (λ z. pos 0 ≤ℤ z) (sym places.starts) (omega (arith, ints))

pub least_end : (last : ℕ) (start end : ℤ) → ArePlaces last start end → pos 0 ≤ℤ end
least_end last start end places = subst (λ z. pos 0 ≤ℤ z) (sym places.ends) (omega (arith, ints))

pub ordered_places : (last : ℕ) (start end : ℤ) → ArePlaces last start end → start ≤ℤ end
ordered_places last start end places =
    subst (λ z. z ≤ℤ end) (sym places.starts) (subst (λ z. pos (place start) ≤ℤ z) (sym places.ends) (omega (arith, ints, places.ordered)))

pub greatest_place : (last : ℕ) (start end : ℤ) → ArePlaces last start end → end ≤ℤ pos last
greatest_place last start end places = subst (λ z. z ≤ℤ pos last) (sym places.ends) (omega (arith, ints, places.within))
