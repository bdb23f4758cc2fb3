-- The numbers from one on, as the places of rows, in any order.
use Rattle.std.proofs.Common.{◌≡◌, ℕ, ◌+◌, ◌<◌, ◌++◌, List, [], ◌∷◌, length, refl, sym, ap, ◌∙◌, arith}
use Rattle.std.specs.List.{All, Contains, range_with_len}
use Rattle.std.specs.List.Sorted.{IsPermutation}
use Rattle.std.proofs.lemmas.List.{map-id}
use Rattle.std.proofs.lemmas.List.Elements.{All-from_get_or}
use Rattle.std.proofs.lemmas.List.FromFn.{get_or-range_with_len, length-range_with_len, map-range_with_len_more}
use Rattle.std.proofs.lemmas.List.Sorted.{Contains-permutation, length_permutation}

-- one more
pub range_more : (a n : ℕ) → range_with_len a (n + 1) ≡ range_with_len a n ++ (a + n) ∷ []
range_more a n =
    sym (map-id (range_with_len a (n + 1))) ∙ map-range_with_len_more (λ x. x) a n (a + n) refl
    ∙ ap (λ xs. xs ++ (a + n) ∷ []) (map-id (range_with_len a n))

pub range_next : (n : ℕ) → range_with_len 0 (n + 1) ≡ range_with_len 0 n ++ n ∷ []
range_next n = range_more 0 n ∙ ap (λ i. range_with_len 0 n ++ i ∷ []) (omega arith)

pub range_long : (n : ℕ) → length (range_with_len 0 n) ≡ n
range_long n = length-range_with_len 0 n

-- each is below their number
pub all_range : (n : ℕ) → All (λ i. i < n) (range_with_len 0 n)
all_range n = All-from_get_or (λ i. i < n) (range_with_len 0 n) 0
    (λ k below. let inside : k < n = omega (arith, below, length-range_with_len 0 n) in rw (get_or-range_with_len 0 n k 0 inside) (omega (arith, inside)))

-- there are as many places as rows
pub long_places : (n : ℕ) (xs : List ℕ) → IsPermutation (range_with_len 0 n) xs → length xs ≡ n
long_places n xs all = length_permutation (range_with_len 0 n) xs all ∙ range_long n

-- each row's place is among them
pub place_among : (n i : ℕ) (xs : List ℕ) → IsPermutation (range_with_len 0 n) xs → i < n → Contains xs i
place_among n i xs all within =
    let start : 0 + i ≡ i = omega arith in
    Contains-permutation (range_with_len 0 n) xs i all
    (i, omega (arith, length-range_with_len 0 n), get_or-range_with_len 0 n i i within ∙ start)
