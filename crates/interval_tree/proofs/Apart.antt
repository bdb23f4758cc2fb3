-- Rising slots stand once each, in any order.
use Rattle.std.proofs.Common.{◌≡◌, ◌≢◌, ℕ, ◌<◌, eqb, List, length, get_or, arith}
use Rattle.std.specs.List.{IsDistinct}
use Rattle.std.specs.List.Sorted.{IsPermutation, IsStrictlyIncreasing}
use Rattle.std.proofs.lemmas.Bool.Decides.{Decides-eqb, nat_tests}
use Rattle.std.proofs.lemmas.List.Kept.{AllPairs-from_increasing}
use Rattle.std.proofs.lemmas.Map.Keys.{IsDistinct-IsPermutation}
use Rattle.std.proofs.lemmas.Map.Made.{AllPairs-from_IsDistinct, IsDistinct-from_AllPairs}

flips : (x y : ℕ) → eqb x y ≡ eqb y x
flips x y = grind (arith, nat_tests)

distinct_of : (slots : List ℕ) → IsStrictlyIncreasing slots → IsDistinct eqb slots
distinct_of slots up = IsDistinct-from_AllPairs {eq = eqb} Decides-eqb slots
    (λ i j d less below same. omega (arith, AllPairs-from_increasing slots up i j d less below, same))

pub apart_of : (slots order : List ℕ) → IsStrictlyIncreasing slots → IsPermutation slots order
    → (i j : ℕ) → i < j → j < length order → get_or order i 0 ≢ get_or order j 0
apart_of slots order up same i j less below =
    AllPairs-from_IsDistinct {eq = eqb} Decides-eqb order (IsDistinct-IsPermutation eqb flips slots order same (distinct_of slots up)) i j 0 less below
