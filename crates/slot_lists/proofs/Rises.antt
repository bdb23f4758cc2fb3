-- What keeps a list rising.
use Rattle.std.proofs.Common.{◌≡◌, ℕ, ◌<◌, ◌+◌, suc, zero, true, List, [], ◌∷◌, ◌++◌, length, get_or, subst, arith}
use Rattle.std.specs.Prelude.{nat_lt}
use Rattle.std.specs.List.{All, filter}
use Rattle.std.specs.List.Sorted.{IsStrictlyIncreasing}
use Rattle.std.proofs.lemmas.Bool.{ltb-true}
use Rattle.std.proofs.lemmas.List.Elements.{All-head, All-tail, All-weaker, filter_passes}
use Rattle.std.proofs.lemmas.List.Kept.{IsStrictlyIncreasing-filter}
use Rattle.slot_lists.specs.Rising.{with_slot}

cons_rises : (x : ℕ) (xs : List ℕ) → (0 < length xs → x < get_or xs 0 0) → IsStrictlyIncreasing xs → IsStrictlyIncreasing (x ∷ xs)
cons_rises x xs first rises zero within = first (omega arith)
cons_rises x xs first rises (suc k) within =
    let e : suc k + 1 ≡ suc (k + 1) = omega arith in
    rw e (rises k (omega arith))

tail_rises : (x : ℕ) (xs : List ℕ) → IsStrictlyIncreasing (x ∷ xs) → IsStrictlyIncreasing xs
tail_rises x xs rises k within =
    let e : suc k + 1 ≡ suc (k + 1) = omega arith in
    subst (λ n. get_or (x ∷ xs) (suc k) 0 < get_or (x ∷ xs) n 0) e (rises (suc k) (omega arith))

head_rises : (x y : ℕ) (xs : List ℕ) → IsStrictlyIncreasing (x ∷ y ∷ xs) → x < y
head_rises x y xs rises = rises 0 (omega arith)

-- a slot between the lesser and the greater ones
pub between_rises : (slot : ℕ) (front behind : List ℕ) → IsStrictlyIncreasing front → IsStrictlyIncreasing behind
    → All (λ x. x < slot) front → All (λ x. slot < x) behind → IsStrictlyIncreasing (front ++ slot ∷ behind)
between_rises slot [] behind low high below above = cons_rises slot behind (λ some. above 0 0 some) high
between_rises slot (x ∷ []) behind low high below above =
    cons_rises x (slot ∷ behind) (λ some. All-head (λ y. y < slot) x [] below) (cons_rises slot behind (λ some. above 0 0 some) high)
between_rises slot (x ∷ y ∷ front) behind low high below above =
    cons_rises x (y ∷ (front ++ slot ∷ behind)) (λ some. head_rises x y front low)
    (between_rises slot (y ∷ front) behind (tail_rises x (y ∷ front) low) high (All-tail (λ z. z < slot) x (y ∷ front) below) above)

pub with_rises : (slot : ℕ) (xs : List ℕ) → IsStrictlyIncreasing xs → IsStrictlyIncreasing (with_slot slot xs)
with_rises slot xs rises =
    between_rises slot (filter (λ x. nat_lt x slot) xs) (filter (λ x. nat_lt slot x) xs)
    (IsStrictlyIncreasing-filter (λ x. nat_lt x slot) xs rises)
    (IsStrictlyIncreasing-filter (λ x. nat_lt slot x) xs rises)
    (All-weaker (λ x. nat_lt x slot ≡ true) (λ x. x < slot) (λ x h. ltb-true x slot h) (filter (λ x. nat_lt x slot) xs) (filter_passes (λ x. nat_lt x slot) xs))
    (All-weaker (λ x. nat_lt slot x ≡ true) (λ x. slot < x) (λ x h. ltb-true slot x h) (filter (λ x. nat_lt slot x) xs) (filter_passes (λ x. nat_lt slot x) xs))
