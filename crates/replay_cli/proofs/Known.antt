-- Bytes written one behind the other.
use Rattle.std.proofs.Common.{◌≡◌, ℕ, List, [], ◌∷◌, ◌++◌, length, take, Option, Some, None, refl, sym, ap, ◌∙◌, inl, inr, append_assoc, arith}
use Rattle.std.specs.List.{concat}
use Rattle.replay_io.specs.Outside.{with_more}
use Rattle.std.proofs.lemmas.List.{append-nil, take-append-le, take_all}
use Rattle.std.proofs.Math.Seq.{take-append_seam}
use Rattle.std.proofs.lemmas.Bool.{cases_lt}

pub with_more-none : (known : Option (List ℕ)) → known ≡ with_more known []
with_more-none None = refl
with_more-none (Some bytes) = ap Some (sym (append-nil bytes))

pub with_more-twice : (known : Option (List ℕ)) (first second : List ℕ) → with_more (with_more known first) second ≡ with_more known (first ++ second)
with_more-twice None first second = refl
with_more-twice (Some bytes) first second = ap Some (append_assoc bytes first second)

pub concat-append : (xs ys : List (List ℕ)) → concat (xs ++ ys) ≡ concat xs ++ concat ys
concat-append [] ys = refl
concat-append (x ∷ xs) ys = ap (λ rest. x ++ rest) (concat-append xs ys) ∙ sym (append_assoc x (concat xs) (concat ys))

-- some of a piece is some of it with more behind
pub take-before : {X : Type 0} (xs ys : List X) (count : ℕ) → (n : ℕ) × (take count xs ≡ take n (xs ++ ys))
take-before xs ys count = elim (cases_lt (length xs) count) [
  | inl past ↦ (length xs, take_all count xs (omega arith) ∙ sym (take-append_seam xs ys))
  | inr within ↦ (count, sym (take-append-le count xs ys within))
]
