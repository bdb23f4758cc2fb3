-- The first span that passes a test.
use Rattle.std.proofs.Common.{◌≡◌, ℕ, ◌<◌, ◌≤◌, Bool, true, false, List, length, Some, None, arith}
use Rattle.std.specs.List.{position, position_or_len}
use Rattle.std.proofs.lemmas.Bool.Decides.{nat_tests}
use Rattle.std.proofs.lemmas.List.Sums.{position_or_len_is}
use Rattle.edit_model.specs.State.{Span}
use Rattle.span_table.specs.Table.{no_span, span_at}

pub none_passes : (p : Span → Bool) (spans : List Span) (n : ℕ) → length spans ≤ n → ((k : ℕ) → k < n → p (span_at spans k) ≡ false)
    → None ≡ position p spans
none_passes p spans n all none =
    let long : position_or_len p spans ≡ length spans = position_or_len_is p spans (length spans) no_span (omega arith) (λ k h. none k (omega arith))
    (λ h. absurd (omega arith)) in
    rw long (grind (arith, nat_tests))

pub first_passes : (p : Span → Bool) (spans : List Span) (i : ℕ) → i < length spans → ((k : ℕ) → k < i → p (span_at spans k) ≡ false)
    → p (span_at spans i) ≡ true → Some i ≡ position p spans
first_passes p spans i within none this =
    let here : position_or_len p spans ≡ i = position_or_len_is p spans i no_span (omega arith) none (λ h. this) in
    rw here (grind (arith, nat_tests))
