-- Lists that are filtered and put into another order.
use Rattle.std.proofs.Common.{◌≡◌, ℕ, ◌+◌, ◌<◌, ◌≤◌, Bool, true, false, not, cond, List, [], ◌∷◌, ◌++◌, length, get_or, map, set, swap, ltb, refl, ap, ◌∙◌, zero, suc, subst, arith}
use Rattle.std.specs.List.{AllByRecursion, filter, range_with_len}
use Rattle.std.specs.List.Sorted.{IsNonDecreasingBy, IsPermutation}
use Rattle.std.proofs.lemmas.Bool.Decides.{nat_tests}
use Rattle.std.proofs.lemmas.List.Elements.{recursion_from_All, All-from_recursion}
use Rattle.std.proofs.lemmas.List.Sorted.{IsPermutation-refl, IsPermutation-cons, IsPermutation-keeps, IsPermutation-trans, IsPermutation-middle, All-permutation, length_permutation}

further : (a b c : ℕ) → ltb a b ≡ true → b ≤ c → ltb a c ≡ true
further a b c less le = grind (arith, nat_tests)

not_above : (a : ℕ) → ltb a a ≡ false
not_above a = grind (arith, nat_tests)

is_above : (a b : ℕ) → a < b → ltb a b ≡ true
is_above a b less = grind (arith, nat_tests)

-- ---- what an exchange keeps

-- A relation of lists holds of a list and its permutations where it is one of equals, goes under a head, turns two heads and chains.
module _ {X : Type 0} (R : List X → List X → Type 0) (same : (xs : List X) → R xs xs)
    (under : (x : X) (xs ys : List X) → R xs ys → R (x ∷ xs) (x ∷ ys))
    (turn : (x y : X) (xs : List X) → R (x ∷ y ∷ xs) (y ∷ x ∷ xs))
    (chain : (xs ys zs : List X) → R xs ys → R ys zs → R xs zs) where
  headed : (xs : List X) (j : ℕ) (x d : X) → j < length xs → R (x ∷ xs) (get_or xs j d ∷ set xs j x)
  headed [] j x d below = absurd (omega arith)
  headed (y ∷ xs) zero x d below = turn x y xs
  headed (y ∷ xs) (suc j) x d below =
      chain _ _ _ (turn x y xs) (chain _ _ _ (under y _ _ (headed xs j x d (omega arith))) (turn y (get_or xs j d) (set xs j x)))

  exchanged : (xs : List X) (i j : ℕ) (d : X) → i < length xs → j < length xs → R xs (set (set xs i (get_or xs j d)) j (get_or xs i d))
  exchanged [] i j d first second = absurd (omega arith)
  exchanged (x ∷ xs) zero zero d first second = same (x ∷ xs)
  exchanged (x ∷ xs) zero (suc j) d first second = headed xs j x d (omega arith)
  exchanged (x ∷ xs) (suc i) zero d first second = headed xs i x d (omega arith)
  exchanged (x ∷ xs) (suc i) (suc j) d first second = under x _ _ (exchanged xs i j d (omega arith) (omega arith))

  swapped : (xs : List X) (i j : ℕ) → i < length xs → j < length xs → R xs (swap xs i j)
  swapped [] i j first second = same []
  swapped (x ∷ xs) i j first second = exchanged (x ∷ xs) i j x first second

  pub of_permutation : (xs ys : List X) → IsPermutation xs ys → R xs ys
  of_permutation xs = IsPermutation-keeps xs (R xs) (same xs) (λ ys i j first second so_far. chain xs ys _ so_far (swapped ys i j first second))

pub two_heads : {X : Type 0} (x y : X) (xs : List X) → IsPermutation (x ∷ y ∷ xs) (y ∷ x ∷ xs)
two_heads x y xs = IsPermutation-middle (x ∷ []) y xs

module _ {X : Type 0} (test : X → Bool) where
  filter_under : (passes : Bool) (x : X) (xs ys : List X) → IsPermutation xs ys → IsPermutation (cond passes (x ∷ xs) xs) (cond passes (x ∷ ys) ys)
  filter_under true x xs ys same = IsPermutation-cons x xs ys same
  filter_under false x xs ys same = same

  filter_turn : (first second : Bool) (x y : X) (xs : List X)
      → IsPermutation (cond first (x ∷ cond second (y ∷ xs) xs) (cond second (y ∷ xs) xs)) (cond second (y ∷ cond first (x ∷ xs) xs) (cond first (x ∷ xs) xs))
  filter_turn true true x y xs = two_heads x y xs
  filter_turn true false x y xs = IsPermutation-refl (x ∷ xs)
  filter_turn false true x y xs = IsPermutation-refl (y ∷ xs)
  filter_turn false false x y xs = IsPermutation-refl xs

  pub IsPermutation-filter : (xs ys : List X) → IsPermutation xs ys → IsPermutation (filter test xs) (filter test ys)
  IsPermutation-filter = of_permutation (λ xs ys. IsPermutation (filter test xs) (filter test ys))
      (λ xs. IsPermutation-refl (filter test xs))
      (λ x xs ys so_far. filter_under (test x) x (filter test xs) (filter test ys) so_far)
      (λ x y xs. filter_turn (test x) (test y) x y (filter test xs))
      (λ xs ys zs first second. IsPermutation-trans _ _ _ first second)

  pub filter_length : (xs ys : List X) → IsPermutation xs ys → length (filter test ys) ≡ length (filter test xs)
  filter_length xs ys same = length_permutation _ _ (IsPermutation-filter xs ys same)

  filter_back : {Y : Type 0} (f : Y → X) (passes : Bool) (y : Y) (ys : List Y) → cond passes (f y ∷ map f ys) (map f ys) ≡ map f (cond passes (y ∷ ys) ys)
  filter_back f true y ys = refl
  filter_back f false y ys = refl

  pub filter-map : {Y : Type 0} (f : Y → X) (ys : List Y) → filter test (map f ys) ≡ map f (filter (λ y. test (f y)) ys)
  filter-map f [] = refl
  filter-map f (y ∷ ys) = ap (λ rest. cond (test (f y)) (f y ∷ rest) rest) (filter-map f ys) ∙ filter_back f (test (f y)) y (filter (λ z. test (f z)) ys)

-- ---- the elements of a list by their places

map_same : {X Y : Type 0} (f g : X → Y) (xs : List X) → ((x : X) → f x ≡ g x) → map f xs ≡ map g xs
map_same f g [] same = refl
map_same f g (x ∷ xs) same = ap (λ y. y ∷ map f xs) (same x) ∙ ap (λ rest. g x ∷ rest) (map_same f g xs same)

read_from : {X : Type 0} (xs all : List X) (d : X) (a : ℕ) → ((k : ℕ) → k < length xs → get_or all (a + k) d ≡ get_or xs k d)
    → map (λ i. get_or all i d) (range_with_len a (length xs)) ≡ xs
read_from [] all d a each = refl
read_from (x ∷ xs) all d a each =
    ap (λ y. y ∷ map (λ i. get_or all i d) (range_with_len (a + 1) (length xs)))
    (ap (λ i. get_or all i d) (omega arith) ∙ each 0 (omega arith))
    ∙ ap (λ rest. x ∷ rest) (read_from xs all d (a + 1) (λ k below. ap (λ i. get_or all i d) (omega arith) ∙ each (suc k) (omega arith)))

pub read_all : {X : Type 0} (xs : List X) (d : X) → map (λ i. get_or xs i d) (range_with_len 0 (length xs)) ≡ xs
read_all xs d = read_from xs xs d 0 (λ k below. ap (λ i. get_or xs i d) (omega arith))

-- ---- one order alone rises

module _ {X : Type 0} (P Q : X → Type 0) (weaker : (x : X) → P x → Q x) where
  pub all_weaker : (xs : List X) → AllByRecursion P xs → AllByRecursion Q xs
  all_weaker [] each = tt
  all_weaker (x ∷ xs) each = (weaker x each.0, all_weaker xs each.1)

filter_every : {X : Type 0} (test : X → Bool) (xs : List X) → AllByRecursion (λ x. test x ≡ true) xs → filter test xs ≡ xs
filter_every test [] each = refl
filter_every test (x ∷ xs) each = rw (each.0, filter_every test xs each.1) refl

filter_no : {X : Type 0} (test : X → Bool) (xs : List X) → AllByRecursion (λ x. test x ≡ false) xs → filter test xs ≡ []
filter_no test [] each = refl
filter_no test (x ∷ xs) each = rw (each.0, filter_no test xs each.1) refl

pub all_kept : {X : Type 0} (P : X → Type 0) (test : X → Bool) (xs : List X) → AllByRecursion P xs → AllByRecursion P (filter test xs)
all_kept P test [] each = tt
all_kept P test (x ∷ xs) each =
    elim (test x) as (λ passes. AllByRecursion P (cond passes (x ∷ filter test xs) (filter test xs))) [
      | true ↦ (each.0, all_kept P test xs each.1)
      | false ↦ all_kept P test xs each.1
    ]

module _ {X : Type 0} (key : X → ℕ) where
  -- each key is less than those behind it; none is greater than one behind it
  abbrev pub Rises : List X → Type 0
  Rises [] = Unit {0}
  Rises (x ∷ xs) = AllByRecursion (λ y. key x < key y) xs × Rises xs

  abbrev pub Climbs : List X → Type 0
  Climbs [] = Unit {0}
  Climbs (x ∷ xs) = AllByRecursion (λ y. key x ≤ key y) xs × Climbs xs

  pub climbs_from : (xs : List X) → IsNonDecreasingBy key xs → Climbs xs
  climbs_from [] up = tt
  climbs_from (x ∷ xs) up = (
    recursion_from_All (λ y. key x ≤ key y) xs (λ k d below. up 0 (suc k) d (omega arith) (omega arith)),
    climbs_from xs (λ i j d order below. up (suc i) (suc j) d (omega arith) (omega arith)),
  )

  climbs_kept : (test : X → Bool) (xs : List X) → Climbs xs → Climbs (filter test xs)
  climbs_kept test [] up = tt
  climbs_kept test (x ∷ xs) up =
      elim (test x) as (λ passes. Climbs (cond passes (x ∷ filter test xs) (filter test xs))) [
        | true ↦ (all_kept (λ y. key x ≤ key y) test xs up.0, climbs_kept test xs up.1)
        | false ↦ climbs_kept test xs up.1
      ]

  abbrev above : X → X → Bool
  above x y = ltb (key x) (key y)

  -- a list that climbs is what isn't above x, and then what is
  parted : (x : X) (xs : List X) → Climbs xs → xs ≡ filter (λ y. not (above x y)) xs ++ filter (above x) xs
  parted x [] up = refl
  parted x (y ∷ ys) up = part (above x y) refl (parted x ys up.1)
    where
      part : (passes : Bool) → above x y ≡ passes → ys ≡ filter (λ z. not (above x z)) ys ++ filter (above x) ys
          → y ∷ ys ≡ filter (λ z. not (above x z)) (y ∷ ys) ++ filter (above x) (y ∷ ys)
      part false is rest = rw is (ap (λ more. y ∷ more) rest)
      part true is rest =
          let all = all_weaker (λ z. key y ≤ key z) (λ z. above x z ≡ true) (λ z le. further (key x) (key y) (key z) is le) ys up.0 in
          rw (
            is,
            filter_no (λ z. not (above x z)) ys (all_weaker (λ z. above x z ≡ true) (λ z. not (above x z) ≡ false) (λ z e. ap not e) ys all),
            filter_every (above x) ys all,
          ) refl

  alone : (x : X) (ys : List X) → IsPermutation (x ∷ []) ys → ys ≡ x ∷ []
  alone x [] same = absurd (omega (arith, length_permutation _ _ same))
  alone x (y ∷ []) same =
      ap (λ z. z ∷ []) (recursion_from_All (λ z. z ≡ x) (y ∷ []) (All-permutation (λ z. z ≡ x) (x ∷ []) (y ∷ []) same
      (All-from_recursion (λ z. z ≡ x) (x ∷ []) (refl, tt)))).0
  alone x (y ∷ z ∷ ys) same = absurd (omega (arith, length_permutation _ _ same))

  pub one_order : (xs ys : List X) → Rises xs → IsPermutation xs ys → Climbs ys → ys ≡ xs
  one_order [] [] strict same up = refl
  one_order [] (y ∷ ys) strict same up = absurd (omega (arith, length_permutation _ _ same))
  one_order (x ∷ xs) ys strict same up =
      let here : above x x ≡ false = not_above (key x) in
      let all = all_weaker (λ z. key x < key z) (λ z. above x z ≡ true) (λ z lt. is_above (key x) (key z) lt) xs strict.0 in
      let first : filter (λ z. not (above x z)) (x ∷ xs) ≡ x ∷ [] =
      rw (here, filter_no (λ z. not (above x z)) xs (all_weaker (λ z. above x z ≡ true) (λ z. not (above x z) ≡ false) (λ z e. ap not e) xs all)) refl in
      let later : filter (above x) (x ∷ xs) ≡ xs = rw (here, filter_every (above x) xs all) refl in
      let head : filter (λ z. not (above x z)) ys ≡ x ∷ [] =
      alone x _ (subst (λ l. IsPermutation l (filter (λ z. not (above x z)) ys)) first (IsPermutation-filter (λ z. not (above x z)) (x ∷ xs) ys same)) in
      let tail : filter (above x) ys ≡ xs =
      one_order xs _ strict.1 (subst (λ l. IsPermutation l (filter (above x) ys)) later (IsPermutation-filter (above x) (x ∷ xs) ys same))
      (climbs_kept (above x) ys up) in
      parted x ys up ∙ ap (λ l. l ++ filter (above x) ys) head ∙ ap (λ l. x ∷ l) tail
