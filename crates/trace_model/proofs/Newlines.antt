-- Lines cut at newlines.
use Rattle.std.proofs.Common.{◌≡◌, ◌≢◌, ℕ, eqb, List, [], ◌∷◌, ◌++◌, ◌⊎◌, length, get_or, drop, refl, ap, sym, ◌∙◌, subst, inl, inr, arith, length-append}
use Rattle.std.proofs.Math.Seq.{drop-append_seam}
use Rattle.std.specs.List.{AllByRecursion}
use Rattle.std.proofs.lemmas.Bool.{cond_both, eqb-true, eqb-false}
use Rattle.trace_model.specs.TraceLines.{joined, with_newline, trace_lines, onto_first, ended_lines, onto_ended, open_line}
use Rattle.trace_model.specs.TraceLaws.{IsOneLine, EndsOpen, AreLinesOf, AreEndedLinesOf}

-- ---- the lines of a trace

onto_one_line : (byte : ℕ) (lines : List (List ℕ)) → byte ≢ 10 → AllByRecursion IsOneLine lines
    → AllByRecursion IsOneLine (onto_first byte lines)
onto_one_line byte [] other each = ((other, tt), tt)
onto_one_line byte (line ∷ lines) other each = ((other, each.0), each.1)

not_ended : (byte : ℕ) (bytes front : List ℕ) → EndsOpen bytes → byte ∷ bytes ≢ with_newline front
not_ended byte bytes [] ends same = ends.0 (ap (drop 1) same)
not_ended byte bytes (first ∷ front) ends same = ends.1 front (ap (drop 1) same)

still_open : (byte : ℕ) (bytes : List ℕ) → EndsOpen bytes → EndsOpen (byte ∷ bytes)
still_open byte bytes ends = (λ none. absurd (omega (arith, ap length none)), λ front. not_ended byte bytes front ends)

one_not_ended : (byte : ℕ) (front : List ℕ) → byte ≢ 10 → byte ∷ [] ≢ with_newline front
one_not_ended byte [] other same = other (ap (λ bytes. get_or bytes 0 0) same)
one_not_ended byte (first ∷ front) other same = absurd (omega (arith, ap length same, length-append front (10 ∷ [])))

one_open : (byte : ℕ) → byte ≢ 10 → EndsOpen (byte ∷ [])
one_open byte other = (λ none. absurd (omega (arith, ap length none)), λ front. one_not_ended byte front other)

more_in_front : (byte : ℕ) (bytes : List ℕ) (lines : List (List ℕ)) → AreLinesOf bytes lines
    → (byte ∷ joined lines ≡ byte ∷ bytes) ⊎ (EndsOpen (byte ∷ bytes) × (byte ∷ joined lines ≡ with_newline (byte ∷ bytes)))
more_in_front byte bytes lines are = elim are [
  | inl whole ↦ inl (ap (λ rest. byte ∷ rest) whole)
  | inr more ↦ inr (still_open byte bytes more.0, ap (λ rest. byte ∷ rest) more.1)
]

onto_lines : (byte : ℕ) (bytes : List ℕ) (lines : List (List ℕ)) → byte ≢ 10 → AreLinesOf bytes lines
    → AreLinesOf (byte ∷ bytes) (onto_first byte lines)
onto_lines byte bytes [] other are = elim are [
  | inl none ↦ inr (subst (λ rest. EndsOpen (byte ∷ rest)) none (one_open byte other), ap (λ rest. byte ∷ rest ++ 10 ∷ []) none)
  | inr some ↦ absurd (omega (arith, ap length some.1, length-append bytes (10 ∷ [])))
]
onto_lines byte bytes (line ∷ lines) other are = more_in_front byte bytes (line ∷ lines) are

abbrev IsCut : List ℕ → List (List ℕ) → Type 0
IsCut trace lines = AllByRecursion IsOneLine lines × AreLinesOf trace lines

pub cut-trace_lines : (trace : List ℕ) → IsCut trace (trace_lines trace)
unfolding trace_lines
cut-trace_lines [] = (tt, inl refl)
cut-trace_lines (byte ∷ bytes) =
    let lines : List (List ℕ) = trace_lines bytes in
    let cut = cut-trace_lines bytes in
    cond_both (eqb byte 10) ([] ∷ lines) (onto_first byte lines) (IsCut (byte ∷ bytes))
    (λ is. ((tt, cut.0), rw (eqb-true byte 10 is) (more_in_front 10 bytes lines cut.1)))
    (λ is. let other = eqb-false byte 10 is in (onto_one_line byte lines other cut.0, onto_lines byte bytes lines other cut.1))

-- ---- the lines that are ended, and the open one

-- what is left behind these lines of the bytes
abbrev Left : List ℕ → List (List ℕ) → Type 0
Left bytes lines = (left : List ℕ) × AreEndedLinesOf bytes lines left

left_at : (byte : ℕ) (bytes : List ℕ) (lines : List (List ℕ)) → byte ≢ 10 → Left bytes lines → Left (byte ∷ bytes) (onto_ended byte lines)
left_at byte bytes [] other all =
    let are = all.1 in (byte ∷ all.0, (tt, (other, are.1), ap (λ rest. byte ∷ rest) are.2))
left_at byte bytes (line ∷ lines) other all =
    let are = all.1 in (all.0, (((other, are.0.0), are.0.1), are.1, ap (λ rest. byte ∷ rest) are.2))

left_of : (bytes : List ℕ) → Left bytes (ended_lines bytes)
unfolding ended_lines
left_of [] = ([], (tt, tt, refl))
left_of (byte ∷ bytes) =
    let lines : List (List ℕ) = ended_lines bytes in
    let all = left_of bytes in
    cond_both (eqb byte 10) ([] ∷ lines) (onto_ended byte lines) (Left (byte ∷ bytes))
    (λ is. (all.0, ((tt, all.1.0), all.1.1, rw (eqb-true byte 10 is) (ap (λ rest. 10 ∷ rest) all.1.2))))
    (λ is. left_at byte bytes lines (eqb-false byte 10 is) all)

behind_lines : (bytes left : List ℕ) (lines : List (List ℕ)) → joined lines ++ left ≡ bytes → left ≡ drop (length (joined lines)) bytes
behind_lines bytes left lines are = sym (drop-append_seam (joined lines) left) ∙ ap (drop (length (joined lines))) are

pub open_line_left : (bytes : List ℕ) → AreEndedLinesOf bytes (ended_lines bytes) (open_line bytes)
unfolding open_line
open_line_left bytes =
    let all = left_of bytes in
    subst (AreEndedLinesOf bytes (ended_lines bytes)) (behind_lines bytes all.0 (ended_lines bytes) all.1.2) all.1
