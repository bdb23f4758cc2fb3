-- The first row with an id.
use Rattle.std.proofs.Common.{◌≡◌, ◌<◌, ◌≤◌, ℕ, Bool, true, false, List, length, Some, None, get_or, map, sym, ap, ◌∙◌, arith}
use Rattle.std.specs.List.{position, position_or_len}
use Rattle.std.proofs.lemmas.Bool.Decides.{nat_tests}
use Rattle.std.proofs.lemmas.List.Sums.{position_or_len_is}
use Rattle.std.proofs.lemmas.List.{get_or_read}
use Rattle.edit_model.specs.State.{Span}
use Rattle.slot_ranks.specs.Slots.{line}
use Rattle.span_table.specs.declared.slots.Fixed.{Fixed}
use Rattle.span_table.specs.Slots.{row_in, rows_in}
use Rattle.span_table.specs.Table.{no_span, seen, span_at}
use Rattle.span_table.proofs.Places.{row_id, span_there}

pub none_passes : (p : Span → Bool) (spans : List Span) (n : ℕ) → length spans ≤ n → ((k : ℕ) → k < n → p (span_at spans k) ≡ false)
    → None ≡ position p spans
none_passes p spans n all none =
    let long : position_or_len p spans ≡ length spans = position_or_len_is p spans (length spans) no_span (omega arith) (λ k h. none k (omega arith))
    (λ h. absurd (omega arith)) in
    rw long (grind (arith, nat_tests))

pub first_passes : (p : Span → Bool) (spans : List Span) (i : ℕ) → i < length spans → ((k : ℕ) → k < i → p (span_at spans k) ≡ false)
    → p (span_at spans i) ≡ true → Some i ≡ position p spans
first_passes p spans i within none this =
    let here : position_or_len p spans ≡ i = position_or_len_is p spans i no_span (omega arith) none (λ h. this) in
    rw here (grind (arith, nat_tests))

-- what is read in the slot at a place has the id of the span there
pub id_there : (fixed : List Fixed) (starts ends : List ℕ) (live : List Bool) (gap room i slot : ℕ) (part : Fixed) → i < length (line live)
    → slot ≡ get_or (line live) i 0 → slot < length fixed → part ≡ get_or fixed slot part
    → (span_at (map (seen gap room) (rows_in fixed starts ends (line live))) i).id ≡ part.id
id_there fixed starts ends live gap room i slot part within here below is =
    sym (ap (λ span. span.id) (span_there fixed starts ends live gap room i within)) ∙ ap (λ k. (row_in fixed starts ends k).id) (sym here)
    ∙ row_id fixed starts ends slot ∙ ap (λ p. p.id) (sym (get_or_read fixed slot part below is _))
