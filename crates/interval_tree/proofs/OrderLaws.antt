-- Orders of slots, as slots come, go and are given new numbers.
use Rattle.std.proofs.Common.{◌≡◌, ℕ, ◌<◌, ◌≤◌, true, false, List, [], ◌∷◌, suc, zero, map, length, get_or, sym, subst, arith, inl, inr}
use Rattle.std.specs.List.{All, Contains, filter}
use Rattle.std.specs.List.Sorted.{IsPermutation, IsNonDecreasingBy}
use Rattle.std.proofs.lemmas.Bool.{cases_lt}
use Rattle.std.proofs.lemmas.Bool.Decides.{nat_tests}
use Rattle.std.proofs.lemmas.List.{get_or-map, get_or_default, length-map}
use Rattle.std.proofs.lemmas.List.Kept.{IsNonDecreasingBy-filter}
use Rattle.std.proofs.lemmas.List.Sorted.{All-permutation, IsPermutation-cons, IsPermutation-map, IsPermutation-middle, IsPermutation-refl, IsPermutation-sym, IsPermutation-trans}
use Rattle.row_kinds.specs.Kinds.{Climbs, is_other}
use Rattle.span_order.specs.Ranked.{rank_in}
use Rattle.interval_tree.specs.Orders.{IsOrder}
use Rattle.row_kinds.proofs.KindSlots.{others_all}
use Rattle.interval_tree.proofs.QueryLists.{IsPermutation-filter}

-- ---- a slot among others

-- a slot of rising ones, and the others
pub parted_other : (slots : List ℕ) (slot : ℕ) → Climbs slots → Contains slots slot → IsPermutation slots (slot ∷ filter (is_other slot) slots)
parted_other [] slot up has = absurd (omega (arith, has.1))
parted_other (one ∷ slots) slot up (zero, within, is) =
    let same : is_other slot one ≡ false = grind (arith, nat_tests) in
    rw (same, is, others_all slot slots (subst (λ x. All (λ y. x < y) slots) is up.0)) (IsPermutation-refl (slot ∷ slots))
parted_other (one ∷ slots) slot up (suc k, within, is) =
    let inside : k < length slots = omega (arith, within) in
    let less : one < slot = subst (λ x. one < x) is (up.0 k slot inside) in
    let other : is_other slot one ≡ true = grind (arith, nat_tests) in
    let has : Contains slots slot = (k, inside, is) in
    let rest = IsPermutation-cons one slots (slot ∷ filter (is_other slot) slots) (parted_other slots slot up.1 has) in
    rw other (IsPermutation-trans (one ∷ slots) (one ∷ slot ∷ filter (is_other slot) slots) (slot ∷ one ∷ filter (is_other slot) slots) rest
    (IsPermutation-middle (one ∷ []) slot (filter (is_other slot) slots)))

-- ---- a slot goes, and comes

pub order_left : (keys slots order : List ℕ) (slot : ℕ) → IsOrder keys slots order
    → IsOrder keys (filter (is_other slot) slots) (filter (is_other slot) order)
order_left keys slots order slot old = record {
  all = IsPermutation-filter (is_other slot) slots order old.all;
  rising = IsNonDecreasingBy-filter (rank_in keys) (is_other slot) order old.rising;
}

pub order_entered : (keys slots order new : List ℕ) (slot : ℕ) → Climbs slots → Contains slots slot
    → IsOrder keys (filter (is_other slot) slots) order → IsPermutation (slot ∷ order) new → IsNonDecreasingBy (rank_in keys) new
    → IsOrder keys slots new
order_entered keys slots order new slot up has old all rising = record {
  all = IsPermutation-trans slots (slot ∷ filter (is_other slot) slots) new (parted_other slots slot up has)
      (IsPermutation-trans (slot ∷ filter (is_other slot) slots) (slot ∷ order) new
      (IsPermutation-cons slot (filter (is_other slot) slots) order old.all) all);
  rising = rising;
}

-- ---- other numbers

-- each slot has other numbers, in the same order
pub order_carried : (keys others slots order : List ℕ) → IsOrder keys slots order
    → ((s t : ℕ) → Contains slots s → Contains slots t → rank_in keys s ≤ rank_in keys t → rank_in others s ≤ rank_in others t)
    → IsOrder others slots order
order_carried keys others slots order old same = record {
  all = old.all;
  rising = λ i j d below within.
      let back = IsPermutation-sym slots order old.all in
      let has : (k : ℕ) → k < length order → Contains slots (get_or order k d) = λ k inside.
      All-permutation (Contains slots) slots order old.all (λ at one here. (at, here, get_or_default slots at (get_or slots at one) one here)) k d inside in
      same (get_or order i d) (get_or order j d) (has i (omega (arith, below, within))) (has j within) (old.rising i j d below within);
}

-- each slot has the same number
pub order_same : (keys others slots order : List ℕ) → IsOrder keys slots order → All (λ s. get_or others s 0 ≡ get_or keys s 0) slots
    → IsOrder others slots order
order_same keys others slots order old same = order_carried keys others slots order old (λ s t first second below.
    let one = among s first in
    let two = among t second in
    omega (arith, below, one, two))
  where
    among : (s : ℕ) → Contains slots s → get_or others s 0 ≡ get_or keys s 0
    among s has = subst (λ x. get_or others x 0 ≡ get_or keys x 0) has.2 (same has.0 s has.1)

-- the slots are given new names, in the same order, and the numbers go along
pub order_renamed : (f : ℕ → ℕ) (keys others slots order : List ℕ) → IsOrder keys slots order
    → ((s : ℕ) → Contains slots s → get_or others (f s) 0 ≡ get_or keys s 0)
    → ((s t : ℕ) → Contains slots s → Contains slots t → s ≤ t → f s ≤ f t)
    → ((s : ℕ) → Contains slots s → s < 4294967296)
    → ((s : ℕ) → Contains slots s → f s ≤ s)
    → IsOrder others (map f slots) (map f order)
order_renamed f keys others slots order old along up fits less = record {
  all = IsPermutation-map f slots order old.all;
  rising = λ i j d below within.
      let long = length-map order f in
      let has : (k : ℕ) → k < length order → Contains slots (get_or order k 0) = λ k inside.
      All-permutation (Contains slots) slots order old.all (λ at one here. (at, here, get_or_default slots at (get_or slots at one) one here)) k 0 inside in
      let first : i < length order = omega (arith, below, within, long) in
      let second : j < length order = omega (arith, within, long) in
      let s = get_or order i 0 in
      let t = get_or order j 0 in
      let here = get_or-map f order i 0 d first in
      let there = get_or-map f order j 0 d second in
      let ranks = old.rising i j 0 below second in
      let one = along s (has i first) in
      let two = along t (has j second) in
      subst (λ x. rank_in others x ≤ rank_in others (get_or (map f order) j d)) (sym here)
      (subst (λ x. rank_in others (f s) ≤ rank_in others x) (sym there) (ranked s t (has i first) (has j second) one two ranks));
}
  where
    ranked : (s t : ℕ) → Contains slots s → Contains slots t → get_or others (f s) 0 ≡ get_or keys s 0 → get_or others (f t) 0 ≡ get_or keys t 0
        → rank_in keys s ≤ rank_in keys t → rank_in others (f s) ≤ rank_in others (f t)
    ranked s t first second one two below =
        let fit = fits s first in
        let fit_too = fits t second in
        let low = less s first in
        let low_too = less t second in
        elim (cases_lt (get_or keys s 0) (get_or keys t 0)) [
          | inl lower ↦ omega (arith, one, two, lower, low, fit)
          | inr past ↦ (let same : get_or keys s 0 ≡ get_or keys t 0 = omega (arith, past, below, fit, fit_too) in
              let order : s ≤ t = omega (arith, same, below) in
              omega (arith, one, two, same, up s t first second order))
        ]
