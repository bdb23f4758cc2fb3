-- The first line of a trace.
use Rattle.std.proofs.Common.{ℕ, zero, suc, ◌≡◌, ◌≢◌, ◌+◌, ◌-◌, ◌<◌, ◌≤◌, ◌==◌, Bool, true, false, not, ltb, List, [], ◌∷◌, ◌++◌, length, get_or, take, drop, position, Some, None, refl, sym, ap, ◌∙◌, add-one, length-drop, length-append, length-take, arith}
use Rattle.std.specs.List.{position_or_len, flat_map}
use Rattle.std.proofs.lemmas.Bool.{ltb-false, not-true, cond-true, cond-false, cond_both}
use Rattle.std.proofs.Math.Seq.{take-length}
use Rattle.std.proofs.lemmas.List.{drop-drop}
use Rattle.std.proofs.lemmas.List.Quantifiers.{position-Some}
use Rattle.std.proofs.lemmas.List.Sums.{prefix_len_passes}
use Rattle.std.proofs.lemmas.Bool.Decides.{nat_tests}
use Rattle.replay_cli.specs.Steps.{lines_in}
use Rattle.trace_model.specs.TraceLines.{onto_first, trace_lines, onto_ended, ended_lines, open_line}

-- the byte that ends a line
abbrev is_end : ℕ → Bool
is_end byte = byte == 10

-- ---- with an end

trace_lines-at : (bytes : List ℕ) (end : ℕ) → end < length bytes → is_end (get_or bytes end 0) ≡ true → ((k : ℕ) → k < end → is_end (get_or bytes k 0) ≡ false)
    → trace_lines bytes ≡ take end bytes ∷ trace_lines (drop (suc end) bytes)
unfolding trace_lines
trace_lines-at [] end inside is before = absurd (omega arith)
trace_lines-at (byte ∷ bytes) zero inside is before = cond-true (is_end byte) _ _ is
trace_lines-at (byte ∷ bytes) (suc end) inside is before =
    cond-false (is_end byte) _ _ (before zero (omega arith))
    ∙ ap (onto_first byte) (trace_lines-at bytes end (omega arith) is (λ k below. before (suc k) (omega arith)))

from_place : (bytes : List ℕ) (place : ℕ) → take (length bytes - place) (drop place bytes) ≡ drop place bytes
from_place bytes place =
    ap (λ n. take n (drop place bytes)) (sym (length-drop place bytes)) ∙ take-length (drop place bytes)

pub trace_lines-end : (bytes : List ℕ) (end : ℕ) → position (λ byte. byte == 10) bytes ≡ Some end
    → trace_lines bytes ≡ take end bytes ∷ trace_lines (take (length bytes - (end + 1)) (drop (end + 1) bytes))
trace_lines-end bytes end is =
    let parts = position-Some is_end bytes end 0 is in
    trace_lines-at bytes end parts.0 parts.1 parts.2
    ∙ ap (λ rest. take end bytes ∷ trace_lines rest) (ap (λ n. drop n bytes) (sym (add-one end)) ∙ sym (from_place bytes (end + 1)))

-- ---- without an end

trace_lines-whole : (byte : ℕ) (bytes : List ℕ) → ((k : ℕ) → k < length (byte ∷ bytes) → is_end (get_or (byte ∷ bytes) k 0) ≡ false)
    → trace_lines (byte ∷ bytes) ≡ (byte ∷ bytes) ∷ trace_lines []
unfolding trace_lines
trace_lines-whole byte [] none = cond-false (is_end byte) _ _ (none zero (omega arith))
trace_lines-whole byte (next ∷ bytes) none =
    cond-false (is_end byte) _ _ (none zero (omega arith))
    ∙ ap (onto_first byte) (trace_lines-whole next bytes (λ k below. none (suc k) (omega arith)))

position-past : (bytes : List ℕ) → position is_end bytes ≡ None → length bytes ≤ position_or_len is_end bytes
position-past bytes =
    let place = position_or_len is_end bytes in
    cond_both (ltb place (length bytes)) (Some place) None (λ found. found ≡ None → length bytes ≤ place)
    (λ inside is. absurd (cc)) (λ outside is. ltb-false place (length bytes) outside)

no_end : (bytes : List ℕ) → position is_end bytes ≡ None → (k : ℕ) → k < length bytes → is_end (get_or bytes k 0) ≡ false
no_end bytes is k inside =
    let past = position-past bytes is in
    not-true _ (prefix_len_passes (λ byte. not (is_end byte)) bytes k 0 (omega arith))

pub trace_lines-no_end : (bytes : List ℕ) → bytes ≢ [] → position (λ byte. byte == 10) bytes ≡ None → trace_lines bytes ≡ bytes ∷ trace_lines []
trace_lines-no_end [] some is = absurd (some refl)
trace_lines-no_end (byte ∷ bytes) some is = trace_lines-whole byte bytes (no_end (byte ∷ bytes) is)

trace_lines-none : (bytes : List ℕ) → bytes ≡ [] → trace_lines bytes ≡ []
unfolding trace_lines
trace_lines-none bytes is = ap trace_lines is

-- ---- the lines whose end stands in the bytes

ended_lines-at : (bytes : List ℕ) (end : ℕ) → end < length bytes → is_end (get_or bytes end 0) ≡ true → ((k : ℕ) → k < end → is_end (get_or bytes k 0) ≡ false)
    → ended_lines bytes ≡ take end bytes ∷ ended_lines (drop (suc end) bytes)
unfolding ended_lines
ended_lines-at [] end inside is before = absurd (omega arith)
ended_lines-at (byte ∷ bytes) zero inside is before = cond-true (is_end byte) _ _ is
ended_lines-at (byte ∷ bytes) (suc end) inside is before =
    cond-false (is_end byte) _ _ (before zero (omega arith))
    ∙ ap (onto_ended byte) (ended_lines-at bytes end (omega arith) is (λ k below. before (suc k) (omega arith)))

ended_lines-none : (bytes : List ℕ) → ((k : ℕ) → k < length bytes → is_end (get_or bytes k 0) ≡ false) → ended_lines bytes ≡ []
unfolding ended_lines
ended_lines-none [] none = refl
ended_lines-none (byte ∷ bytes) none =
    cond-false (is_end byte) _ _ (none zero (omega arith)) ∙ ap (onto_ended byte) (ended_lines-none bytes (λ k below. none (suc k) (omega arith)))

abbrev with_end : List ℕ → List ℕ
with_end line = line ++ 10 ∷ []

open_line-at : (bytes rest : List ℕ) (end : ℕ) → end < length bytes → rest ≡ drop (suc end) bytes → ended_lines bytes ≡ take end bytes ∷ ended_lines rest
    → open_line bytes ≡ open_line rest
unfolding open_line
open_line-at bytes rest end inside is lines =
    let m = length (flat_map with_end (ended_lines rest)) in
    let counted : length (flat_map with_end (take end bytes ∷ ended_lines rest)) ≡ suc end + m =
    omega (
      arith,
      length-append (with_end (take end bytes)) (flat_map with_end (ended_lines rest)),
      length-append (take end bytes) (10 ∷ []),
      length-take end
          bytes,
    ) in
    ap (λ ls. drop (length (flat_map with_end ls)) bytes) lines ∙ ap (λ n. drop n bytes) counted ∙ sym (drop-drop m (suc end) bytes) ∙ ap (drop m) (sym is)

pub ended_lines-end : (bytes : List ℕ) (end : ℕ) → position (λ byte. byte == 10) bytes ≡ Some end
    → ended_lines bytes ≡ take end bytes ∷ ended_lines (take (length bytes - (end + 1)) (drop (end + 1) bytes))
ended_lines-end bytes end is =
    let parts = position-Some is_end bytes end 0 is in
    ended_lines-at bytes end parts.0 parts.1 parts.2
    ∙ ap (λ rest. take end bytes ∷ ended_lines rest) (ap (λ n. drop n bytes) (sym (add-one end)) ∙ sym (from_place bytes (end + 1)))

pub open_line-end : (bytes : List ℕ) (end : ℕ) → position (λ byte. byte == 10) bytes ≡ Some end
    → open_line bytes ≡ open_line (take (length bytes - (end + 1)) (drop (end + 1) bytes))
open_line-end bytes end is =
    let parts = position-Some is_end bytes end 0 is in
    open_line-at bytes _ end parts.0 (from_place bytes (end + 1) ∙ ap (λ n. drop n bytes) (add-one end)) (ended_lines-end bytes end is)

pub ended_lines-no_end : (bytes : List ℕ) → position (λ byte. byte == 10) bytes ≡ None → ended_lines bytes ≡ []
ended_lines-no_end bytes is = ended_lines-none bytes (no_end bytes is)

pub open_line-no_end : (bytes : List ℕ) → position (λ byte. byte == 10) bytes ≡ None → open_line bytes ≡ bytes
unfolding open_line
open_line-no_end bytes is = ap (λ ls. drop (length (flat_map with_end ls)) bytes) (ended_lines-no_end bytes is)

pub no_bytes : (bytes : List ℕ) → true ≡ length bytes == 0 → bytes ≡ []
no_bytes [] is = refl
no_bytes (byte ∷ bytes) is = let e : length (byte ∷ bytes) ≡ 0 = grind (arith, nat_tests) in absurd (omega (arith, e))

-- no byte, no line
pub lines-none : (is_cut : Bool) (bytes : List ℕ) → is_cut ≡ false → bytes ≡ [] → lines_in is_cut bytes ≡ []
lines-none true bytes cut none = absurd (cc)
lines-none false bytes cut none = trace_lines-none bytes none

pub ruleset cutting = (trace_lines-end, trace_lines-no_end, ended_lines-end, open_line-end, ended_lines-no_end, open_line-no_end)
