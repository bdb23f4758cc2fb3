-- The slots of the rows of a kind, as rows come, go and change.
use Rattle.std.proofs.Common.{◌≡◌, ◌≢◌, ℕ, ◌<◌, Bool, true, false, cond, List, [], ◌∷◌, ◌++◌, suc, zero, map, length, get_or, refl, sym, subst, ap, ◌∙◌, arith, inl, inr}
use Rattle.std.specs.List.{All, AllPairs, Contains, filter, remove}
use Rattle.std.specs.List.Sorted.{IsStrictlyIncreasing}
use Rattle.std.proofs.Math.ListN.{set}
use Rattle.std.proofs.lemmas.Bool.{cases_eq}
use Rattle.std.proofs.lemmas.Bool.Decides.{nat_tests}
use Rattle.std.proofs.lemmas.List.Elements.{All-cons, All-filter, All-head, All-nil, All-tail}
use Rattle.std.proofs.lemmas.List.{get_or_default}
use Rattle.std.proofs.lemmas.List.Kept.{AllPairs-from_increasing}
use Rattle.span_table.specs.declared.kept.KeptRow.{KeptRow}
use Rattle.span_table.specs.Table.{kept_at}
use Rattle.row_kinds.specs.Kinds.{Climbs, is_other, slots_where}

pub others_all : (gone : ℕ) (xs : List ℕ) → All (λ x. gone < x) xs → filter (is_other gone) xs ≡ xs
others_all gone [] each = refl
others_all gone (x ∷ xs) each =
    let more : gone < x = All-head (λ y. gone < y) x xs each in
    let other : is_other gone x ≡ true = grind (arith, nat_tests) in
    rw other (ap (λ rest. x ∷ rest) (others_all gone xs (All-tail (λ y. gone < y) x xs each)))

module _ (test : KeptRow → Bool) where
  pub slots_added : (kept : List KeptRow) (slots : List ℕ) (row : KeptRow) (slot : ℕ) → length slots ≡ length kept
      → slots_where test (kept ++ row ∷ []) (slots ++ slot ∷ []) ≡ slots_where test kept slots ++ cond (test row) (slot ∷ []) []
  unfolding slots_where
  slots_added [] [] row slot long = refl
  slots_added [] (one ∷ slots) row slot long = absurd (omega arith)
  slots_added (other ∷ kept) [] row slot long = absurd (omega arith)
  slots_added (other ∷ kept) (one ∷ slots) row slot long =
      step (test other) _ (slots_where test kept slots) _ (slots_added kept slots row slot (omega arith))
    where
      step : (passes : Bool) (all front behind : List ℕ) → all ≡ front ++ behind
          → cond passes (one ∷ all) all ≡ cond passes (one ∷ front) front ++ behind
      step true all front behind same = ap (λ rest. one ∷ rest) same
      step false all front behind same = same

  pub slots_renamed : (f : ℕ → ℕ) (kept : List KeptRow) (slots : List ℕ) → slots_where test kept (map f slots) ≡ map f (slots_where test kept slots)
  unfolding slots_where
  slots_renamed f [] slots = refl
  slots_renamed f (row ∷ kept) [] = refl
  slots_renamed f (row ∷ kept) (slot ∷ slots) = step (test row) _ (slots_where test kept slots) (slots_renamed f kept slots)
    where
      step : (passes : Bool) (all rest : List ℕ) → all ≡ map f rest → cond passes (f slot ∷ all) all ≡ map f (cond passes (slot ∷ rest) rest)
      step true all rest same = ap (λ more. f slot ∷ more) same
      step false all rest same = same

  -- what holds of all slots holds of these
  pub slots_all : (P : ℕ → Type 0) (kept : List KeptRow) (slots : List ℕ) → All P slots → All P (slots_where test kept slots)
  unfolding slots_where
  slots_all P [] slots each = All-nil P
  slots_all P (row ∷ kept) [] each = All-nil P
  slots_all P (row ∷ kept) (slot ∷ slots) each =
      step (test row) (slots_where test kept slots) (All-head P slot slots each) (slots_all P kept slots (All-tail P slot slots each))
    where
      step : (passes : Bool) (rest : List ℕ) → P slot → All P rest → All P (cond passes (slot ∷ rest) rest)
      step true rest here more = All-cons P slot rest here more
      step false rest here more = more

  pub slots_climb : (kept : List KeptRow) (slots : List ℕ) → Climbs slots → Climbs (slots_where test kept slots)
  unfolding slots_where
  slots_climb [] slots up = tt
  slots_climb (row ∷ kept) [] up = tt
  slots_climb (row ∷ kept) (slot ∷ slots) up =
      step (test row) (slots_where test kept slots) (slots_all (λ other. slot < other) kept slots up.0) (slots_climb kept slots up.1)
    where
      step : (passes : Bool) (rest : List ℕ) → All (λ other. slot < other) rest → Climbs rest → Climbs (cond passes (slot ∷ rest) rest)
      step true rest above more = (above, more)
      step false rest above more = more

  get_among : (slot : ℕ) (slots : List ℕ) (i : ℕ) → All (λ other. slot < other) slots → i < length slots → slot < get_or slots i 0
  get_among slot slots i above within = above i 0 within

  -- the row at a place and its slot go
  pub slots_removed : (kept : List KeptRow) (slots : List ℕ) (i : ℕ) → length slots ≡ length kept → i < length slots → Climbs slots
      → slots_where test (remove kept i) (remove slots i) ≡ filter (is_other (get_or slots i 0)) (slots_where test kept slots)
  unfolding slots_where
  slots_removed kept [] i long within up = absurd (omega arith)
  slots_removed [] (slot ∷ slots) i long within up = absurd (omega arith)
  slots_removed (row ∷ kept) (slot ∷ slots) zero long within up =
      step (test row) (slots_where test kept slots) (others_all slot (slots_where test kept slots) (slots_all (λ other. slot < other) kept slots up.0))
    where
      same : is_other slot slot ≡ false
      same = grind (arith, nat_tests)

      step : (passes : Bool) (rest : List ℕ) → filter (is_other slot) rest ≡ rest → rest ≡ filter (is_other slot) (cond passes (slot ∷ rest) rest)
      step true rest all = rw same (sym all)
      step false rest all = sym all
  slots_removed (row ∷ kept) (slot ∷ slots) (suc i) long within up =
      step (test row) (slots_where test (remove kept i) (remove slots i)) (slots_where test kept slots)
      (slots_removed kept slots i (omega arith) (omega arith) up.1)
    where
      gone : ℕ
      gone = get_or slots i 0

      other : is_other gone slot ≡ true
      other = let less : slot < get_or slots i 0 = get_among slot slots i up.0 (omega arith) in grind (arith, nat_tests)

      step : (passes : Bool) (left all : List ℕ) → left ≡ filter (is_other gone) all
          → cond passes (slot ∷ left) left ≡ filter (is_other gone) (cond passes (slot ∷ all) all)
      step true left all same = rw other (ap (λ rest. slot ∷ rest) same)
      step false left all same = same

-- ---- a row becomes another

climb_others : (gone : ℕ) (xs : List ℕ) → Climbs xs → Climbs (filter (is_other gone) xs)
climb_others gone [] up = tt
climb_others gone (x ∷ xs) up =
    step (is_other gone x) (filter (is_other gone) xs) (All-filter (is_other gone) (λ y. x < y) xs up.0) (climb_others gone xs up.1)
  where
    step : (passes : Bool) (rest : List ℕ) → All (λ y. x < y) rest → Climbs rest → Climbs (cond passes (x ∷ rest) rest)
    step true rest above more = (above, more)
    step false rest above more = more

-- rising slots among which one is are told by the others
pub one_climb : (slot : ℕ) (xs ys : List ℕ) → Climbs xs → Climbs ys → Contains xs slot → Contains ys slot
    → filter (is_other slot) xs ≡ filter (is_other slot) ys → xs ≡ ys
one_climb slot [] ys up above first second same = absurd (omega (arith, first.1))
one_climb slot (x ∷ xs) [] up above first second same = absurd (omega (arith, second.1))
one_climb slot (x ∷ xs) (y ∷ ys) up above first second same = elim (cases_eq x slot) [
  | inl here ↦ elim (cases_eq y slot) [
    | inl there ↦ (let not_x : is_other slot x ≡ false = grind (arith, nat_tests) in
        let not_y : is_other slot y ≡ false = grind (arith, nat_tests) in
        let rest : xs ≡ ys = sym (others_all slot xs (subst (λ z. All (λ w. z < w) xs) here up.0)) ∙ (rw (not_x, not_y) at same) ∙ others_all slot ys
        (subst (λ z. All (λ w. z < w) ys) there above.0) in
        rw (here, there, rest) refl)
    | inr other ↦ absurd (late x xs y ys up above here other second same)
  ]
  | inr other ↦ elim (cases_eq y slot) [
    | inl there ↦ absurd (late y ys x xs above up there other first (sym same))
    | inr neither ↦ (let is_x : is_other slot x ≡ true = grind (arith, nat_tests) in
        let is_y : is_other slot y ≡ true = grind (arith, nat_tests) in
        let both : x ∷ filter (is_other slot) xs ≡ y ∷ filter (is_other slot) ys = (rw (is_x, is_y) at same) in
        let heads : x ≡ y = (let e = both in cc) in
        let tails : filter (is_other slot) xs ≡ filter (is_other slot) ys = (let e = both in cc) in
        rw (heads, one_climb slot xs ys up.1 above.1 (behind slot x xs other first) (behind slot y ys neither second) tails) refl)
  ]
]
  where
    behind : (s z : ℕ) (zs : List ℕ) → z ≢ s → Contains (z ∷ zs) s → Contains zs s
    behind s z zs other (zero, within, is) = absurd (other is)
    behind s z zs other (suc k, within, is) = (k, omega (arith, within), is)

    -- the slot comes first in one list and later in the other
    late : (a : ℕ) (cs : List ℕ) (b : ℕ) (bs : List ℕ) → Climbs (a ∷ cs) → Climbs (b ∷ bs) → a ≡ slot → b ≢ slot → Contains (b ∷ bs) slot
        → filter (is_other slot) (a ∷ cs) ≡ filter (is_other slot) (b ∷ bs) → ⊥
    late a cs b bs first second here other has same =
        let not_a : is_other slot a ≡ false = grind (arith, nat_tests) in
        let is_b : is_other slot b ≡ true = grind (arith, nat_tests) in
        let all : cs ≡ b ∷ filter (is_other slot) bs = sym (others_all slot cs (subst (λ z. All (λ w. z < w) cs) here first.0)) ∙ (rw (not_a, is_b) at same) in
        let in_bs = behind slot b bs other has in
        let less : b < slot = subst (λ z. b < z) in_bs.2 (second.0 in_bs.0 slot in_bs.1) in
        let more = first.0 0 b (omega (arith, ap length all)) in
        omega (arith, less, more, here, ap (λ zs. get_or zs 0 b) all)

module _ (test : KeptRow → Bool) (row : KeptRow) where
  pub set_same : (kept : List KeptRow) (slots : List ℕ) (i : ℕ) → test row ≡ test (kept_at kept i)
      → slots_where test (set kept i row) slots ≡ slots_where test kept slots
  unfolding slots_where
  set_same [] slots i same = refl
  set_same (one ∷ kept) [] zero same = refl
  set_same (one ∷ kept) [] (suc i) same = refl
  set_same (one ∷ kept) (slot ∷ slots) zero same = rw same refl
  set_same (one ∷ kept) (slot ∷ slots) (suc i) same = rw (set_same kept slots i same) refl

  pub set_others : (kept : List KeptRow) (slots : List ℕ) (i : ℕ) → i < length slots → Climbs slots
      → filter (is_other (get_or slots i 0)) (slots_where test (set kept i row) slots)
      ≡ filter (is_other (get_or slots i 0)) (slots_where test kept slots)
  unfolding slots_where
  set_others [] slots i within up = refl
  set_others (one ∷ kept) [] i within up = absurd (omega (arith, within))
  set_others (one ∷ kept) (slot ∷ slots) zero within up = step (test row) (test one) (slots_where test kept slots)
    where
      gone : is_other slot slot ≡ false
      gone = grind (arith, nat_tests)

      step : (now was : Bool) (rest : List ℕ) → filter (is_other slot) (cond now (slot ∷ rest) rest) ≡ filter (is_other slot) (cond was (slot ∷ rest) rest)
      step true true rest = refl
      step true false rest = rw gone refl
      step false true rest = rw gone refl
      step false false rest = refl
  set_others (one ∷ kept) (slot ∷ slots) (suc i) within up =
      step (test one) _ _ (set_others kept slots i (omega (arith, within)) up.1)
    where
      at : ℕ
      at = get_or slots i 0

      step : (passes : Bool) (xs ys : List ℕ) → filter (is_other at) xs ≡ filter (is_other at) ys
          → filter (is_other at) (cond passes (slot ∷ xs) xs) ≡ filter (is_other at) (cond passes (slot ∷ ys) ys)
      step true xs ys same = rw same refl
      step false xs ys same = same

  pub set_has : (kept : List KeptRow) (slots : List ℕ) (i : ℕ) → i < length slots → length slots ≡ length kept → test row ≡ true
      → Contains (slots_where test (set kept i row) slots) (get_or slots i 0)
  unfolding slots_where
  set_has [] slots i within long is = absurd (omega (arith, within, long))
  set_has (one ∷ kept) [] i within long is = absurd (omega (arith, within))
  set_has (one ∷ kept) (slot ∷ slots) zero within long is = rw is (0, omega arith, refl)
  set_has (one ∷ kept) (slot ∷ slots) (suc i) within long is =
      step (test one) (slots_where test (set kept i row) slots) (set_has kept slots i (omega (arith, within)) (omega (arith, long)) is)
    where
      step : (passes : Bool) (rest : List ℕ) → Contains rest (get_or slots i 0) → Contains (cond passes (slot ∷ rest) rest) (get_or slots i 0)
      step true rest has = (suc has.0, omega (arith, has.1), has.2)
      step false rest has = has

-- a slot whose row fails the test isn't among them
pub none_there : (test : KeptRow → Bool) (kept : List KeptRow) (slots : List ℕ) (i : ℕ) → i < length slots → length slots ≡ length kept → Climbs slots
    → test (kept_at kept i) ≡ false → filter (is_other (get_or slots i 0)) (slots_where test kept slots) ≡ slots_where test kept slots
unfolding slots_where
none_there test [] slots i within long up is = refl
none_there test (one ∷ kept) [] i within long up is = absurd (omega (arith, within))
none_there test (one ∷ kept) (slot ∷ slots) zero within long up is =
    rw is (others_all slot (slots_where test kept slots) (slots_all test (λ other. slot < other) kept slots up.0))
none_there test (one ∷ kept) (slot ∷ slots) (suc i) within long up is =
    step (test one) (slots_where test kept slots) (none_there test kept slots i (omega (arith, within)) (omega (arith, long)) up.1 is)
  where
    at : ℕ
    at = get_or slots i 0

    other : is_other at slot ≡ true
    other = let less : slot < at = up.0 i 0 (omega (arith, within)) in grind (arith, nat_tests)

    step : (passes : Bool) (rest : List ℕ) → filter (is_other at) rest ≡ rest → filter (is_other at) (cond passes (slot ∷ rest) rest) ≡ cond passes (slot ∷ rest) rest
    step true rest all = rw other (ap (λ more. slot ∷ more) all)
    step false rest all = all

-- ---- rising slots

climbs_pairs : (xs : List ℕ) → AllPairs (λ x y. x < y) xs → Climbs xs
climbs_pairs [] pairs = tt
climbs_pairs (x ∷ xs) pairs = (
  (λ k d below. pairs 0 (suc k) d (omega arith) (omega (arith, below))),
  climbs_pairs xs (λ i j d less below. pairs (suc i) (suc j) d (omega (arith, less)) (omega (arith, below))),
)

pub climbs_from : (xs : List ℕ) → IsStrictlyIncreasing xs → Climbs xs
climbs_from xs up = climbs_pairs xs (AllPairs-from_increasing xs up)

pub slot_among : (slots : List ℕ) (i : ℕ) → i < length slots → Contains slots (get_or slots i 0)
slot_among slots i within = (i, within, get_or_default slots i (get_or slots i 0) 0 within)

-- the slots of a kind are among all slots
pub among_all : (test : KeptRow → Bool) (kept : List KeptRow) (slots : List ℕ) → All (Contains slots) (slots_where test kept slots)
among_all test kept slots = slots_all test (Contains slots) kept slots (λ k d below. (k, below, get_or_default slots k (get_or slots k d) d below))
