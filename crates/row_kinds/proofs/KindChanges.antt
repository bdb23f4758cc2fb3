-- What a change of one row leaves of the slots of a kind.
use Rattle.std.proofs.Common.{◌≡◌, ℕ, ◌+◌, ◌-◌, ◌<◌, ◌≤◌, Bool, true, false, cond, ltb, List, [], ◌∷◌, ◌++◌, suc, zero, length, length-append, append-nil, get_or, refl, sym, subst, ap, ◌∙◌, arith, inl, inr}
use Rattle.std.specs.List.{All, Contains, filter, remove}
use Rattle.std.proofs.Math.ListN.{set}
use Rattle.std.proofs.lemmas.Bool.{cases_Bool, cases_eq}
use Rattle.std.proofs.lemmas.Bool.Decides.{nat_tests}
use Rattle.std.proofs.lemmas.List.{get_or-set_same, length-set}
use Rattle.std.proofs.lemmas.List.Elements.{All-head, All-tail, filter-append}
use Rattle.span_table.specs.declared.kept.KeptRow.{KeptRow}
use Rattle.span_table.specs.Table.{kept_at, no_row}
use Rattle.slot_lists.specs.Rising.{with_slot, without_slot}
use Rattle.row_kinds.specs.Kinds.{Climbs, IsTally, is_other, slots_where, turned}
use Rattle.row_kinds.proofs.KindSlots.{none_there, set_has, set_others, set_same, slots_added, slots_all, slots_climb, slots_removed}

-- ---- a slot that goes in

lesser_none : (slot : ℕ) (xs : List ℕ) → All (λ x. slot < x) xs → filter (λ x. ltb x slot) xs ≡ []
lesser_none slot [] each = refl
lesser_none slot (x ∷ xs) each =
    let more : slot < x = All-head (λ y. slot < y) x xs each in
    let no : ltb x slot ≡ false = grind (arith, nat_tests) in
    rw no (lesser_none slot xs (All-tail (λ y. slot < y) x xs each))

greater_all : (slot : ℕ) (xs : List ℕ) → All (λ x. slot < x) xs → filter (λ x. ltb slot x) xs ≡ xs
greater_all slot [] each = refl
greater_all slot (x ∷ xs) each =
    let more : slot < x = All-head (λ y. slot < y) x xs each in
    let is : ltb slot x ≡ true = grind (arith, nat_tests) in
    rw is (ap (λ rest. x ∷ rest) (greater_all slot xs (All-tail (λ y. slot < y) x xs each)))

lesser_all : (slot : ℕ) (xs : List ℕ) → All (λ x. x < slot) xs → filter (λ x. ltb x slot) xs ≡ xs
lesser_all slot [] each = refl
lesser_all slot (x ∷ xs) each =
    let less : x < slot = All-head (λ y. y < slot) x xs each in
    let is : ltb x slot ≡ true = grind (arith, nat_tests) in
    rw is (ap (λ rest. x ∷ rest) (lesser_all slot xs (All-tail (λ y. y < slot) x xs each)))

greater_none : (slot : ℕ) (xs : List ℕ) → All (λ x. x < slot) xs → filter (λ x. ltb slot x) xs ≡ []
greater_none slot [] each = refl
greater_none slot (x ∷ xs) each =
    let less : x < slot = All-head (λ y. y < slot) x xs each in
    let no : ltb slot x ≡ false = grind (arith, nat_tests) in
    rw no (greater_none slot xs (All-tail (λ y. y < slot) x xs each))

pub others_before : (slot : ℕ) (xs : List ℕ) → All (λ x. x < slot) xs → filter (is_other slot) xs ≡ xs
others_before slot [] each = refl
others_before slot (x ∷ xs) each =
    let less : x < slot = All-head (λ y. y < slot) x xs each in
    let is : is_other slot x ≡ true = grind (arith, nat_tests) in
    rw is (ap (λ rest. x ∷ rest) (others_before slot xs (All-tail (λ y. y < slot) x xs each)))

-- rising slots are one of them between the lesser and the greater ones
with_own : (slot : ℕ) (xs : List ℕ) → Climbs xs → Contains xs slot → with_slot slot xs ≡ xs
with_own slot [] up has = absurd (omega (arith, has.1))
with_own slot (x ∷ xs) up (zero, within, is) =
    let below : ltb x slot ≡ false = grind (arith, nat_tests) in
    let above : ltb slot x ≡ false = grind (arith, nat_tests) in
    let each : All (λ y. slot < y) xs = subst (λ z. All (λ y. z < y) xs) is up.0 in
    rw (below, above, lesser_none slot xs each, greater_all slot xs each) (ap (λ y. y ∷ xs) (sym is))
with_own slot (x ∷ xs) up (suc k, within, is) =
    let inside : k < length xs = omega (arith, within) in
    let less : x < slot = subst (λ z. x < z) is (up.0 k slot inside) in
    let below : ltb x slot ≡ true = grind (arith, nat_tests) in
    let above : ltb slot x ≡ false = grind (arith, nat_tests) in
    rw (below, above) (ap (λ rest. x ∷ rest) (with_own slot xs up.1 (k, inside, is)))

lesser_others : (slot : ℕ) (xs : List ℕ) → filter (λ x. ltb x slot) (filter (is_other slot) xs) ≡ filter (λ x. ltb x slot) xs
lesser_others slot [] = refl
lesser_others slot (x ∷ xs) = elim (cases_eq x slot) [
  | inl here ↦ (let gone : is_other slot x ≡ false = grind (arith, nat_tests) in
      let no : ltb x slot ≡ false = grind (arith, nat_tests) in
      rw (gone, no) (lesser_others slot xs))
  | inr other ↦ (let stays : is_other slot x ≡ true = grind (arith, nat_tests) in
      rw (stays, lesser_others slot xs) refl)
]

greater_others : (slot : ℕ) (xs : List ℕ) → filter (λ x. ltb slot x) (filter (is_other slot) xs) ≡ filter (λ x. ltb slot x) xs
greater_others slot [] = refl
greater_others slot (x ∷ xs) = elim (cases_eq x slot) [
  | inl here ↦ (let gone : is_other slot x ≡ false = grind (arith, nat_tests) in
      let no : ltb slot x ≡ false = grind (arith, nat_tests) in
      rw (gone, no) (greater_others slot xs))
  | inr other ↦ (let stays : is_other slot x ≡ true = grind (arith, nat_tests) in
      rw (stays, greater_others slot xs) refl)
]

-- it goes in by the others alone
with_others : (slot : ℕ) (xs ys : List ℕ) → filter (is_other slot) xs ≡ filter (is_other slot) ys → with_slot slot xs ≡ with_slot slot ys
with_others slot xs ys same =
    let low : filter (λ x. ltb x slot) xs ≡ filter (λ x. ltb x slot) ys =
    sym (lesser_others slot xs) ∙ ap (filter (λ x. ltb x slot)) same ∙ lesser_others slot ys in
    let high : filter (λ x. ltb slot x) xs ≡ filter (λ x. ltb slot x) ys =
    sym (greater_others slot xs) ∙ ap (filter (λ x. ltb slot x)) same ∙ greater_others slot ys in
    rw (low, high) refl

-- ---- one row more, another one, and one less

module _ (test : KeptRow → Bool) where
  pub turned_added : (kept : List KeptRow) (slots : List ℕ) (row : KeptRow) (slot : ℕ) → length slots ≡ length kept → All (λ other. other < slot) slots
      → turned false (test row) slot (slots_where test kept slots) ≡ slots_where test (kept ++ row ∷ []) (slots ++ slot ∷ [])
  turned_added kept slots row slot long behind = elim (cases_Bool (test row)) [
    | inl is ↦ (let each = slots_all test (λ other. other < slot) kept slots behind in
        let low = lesser_all slot (slots_where test kept slots) each in
        let high = greater_none slot (slots_where test kept slots) each in
        rw (slots_added test kept slots row slot long, is, low, high) refl)
    | inr fails ↦ rw (slots_added test kept slots row slot long, fails) (sym (append-nil (slots_where test kept slots)))
  ]

  pub turned_set : (kept : List KeptRow) (slots : List ℕ) (place : ℕ) (old row : KeptRow) (slot : ℕ) → length slots ≡ length kept → Climbs slots
      → place < length kept → get_or slots place 0 ≡ slot → kept_at kept place ≡ old
      → turned (test old) (test row) slot (slots_where test kept slots) ≡ slots_where test (set kept place row) slots
  turned_set kept slots place old row slot long up within here there =
      elim (cases_Bool (test old)) [
        | inl was ↦ elim (cases_Bool (test row)) [
          | inl is ↦ rw (was, is) (sym (set_same test row kept slots place (is ∙ sym (ap test there ∙ was))))
          | inr fails ↦ rw (was, fails) (sym (left fails))
        ]
        | inr failed ↦ elim (cases_Bool (test row)) [
          | inl is ↦ rw (failed, is) (sym (came is))
          | inr fails ↦ rw (failed, fails) (sym (set_same test row kept slots place (fails ∙ sym (ap test there ∙ failed))))
        ]
      ]
    where
      inside : place < length slots
      inside = omega (arith, within, long)

      others : filter (is_other slot) (slots_where test (set kept place row) slots) ≡ filter (is_other slot) (slots_where test kept slots)
      others = subst (λ s. filter (is_other s) (slots_where test (set kept place row) slots) ≡ filter (is_other s) (slots_where test kept slots)) here
          (set_others test row kept slots place inside up)

      row_there : test row ≡ false → test (kept_at (set kept place row) place) ≡ false
      row_there fails = ap test (get_or-set_same kept place row no_row within) ∙ fails

      left : test row ≡ false → slots_where test (set kept place row) slots ≡ without_slot slot (slots_where test kept slots)
      left fails =
          sym (subst (λ s. filter (is_other s) (slots_where test (set kept place row) slots) ≡ slots_where test (set kept place row) slots) here
          (none_there test (set kept place row) slots place inside (long ∙ sym (length-set kept place row)) up (row_there fails))) ∙ others

      came : test row ≡ true → slots_where test (set kept place row) slots ≡ with_slot slot (slots_where test kept slots)
      came is =
          sym (with_own slot (slots_where test (set kept place row) slots) (slots_climb test (set kept place row) slots up)
          (subst (Contains (slots_where test (set kept place row) slots)) here (set_has test row kept slots place inside long is)))
          ∙ with_others slot (slots_where test (set kept place row) slots) (slots_where test kept slots) others

  pub turned_removed : (kept : List KeptRow) (slots : List ℕ) (place : ℕ) (old : KeptRow) (slot : ℕ) → length slots ≡ length kept → Climbs slots
      → place < length kept → get_or slots place 0 ≡ slot → kept_at kept place ≡ old
      → turned (test old) false slot (slots_where test kept slots) ≡ slots_where test (remove kept place) (remove slots place)
  turned_removed kept slots place old slot long up within here there =
      elim (cases_Bool (test old)) [
        | inl was ↦ rw was (sym all)
        | inr fails ↦ rw fails (sym (all ∙ subst (λ s. filter (is_other s) (slots_where test kept slots) ≡ slots_where test kept slots) here
            (none_there test kept slots place inside long up (ap test there ∙ fails))))
      ]
    where
      inside : place < length slots
      inside = omega (arith, within, long)

      all : slots_where test (remove kept place) (remove slots place) ≡ filter (is_other slot) (slots_where test kept slots)
      all = subst (λ s. slots_where test (remove kept place) (remove slots place) ≡ filter (is_other s) (slots_where test kept slots)) here
          (slots_removed test kept slots place long inside up)

  -- ---- how many

  one_less : (passes : Bool) (slot : ℕ) (slots : List ℕ) (row : KeptRow) (rows : List KeptRow) → length slots ≡ length rows
      → length (cond passes (slot ∷ slots) slots) ≡ length (cond passes (row ∷ rows) rows)
  one_less true slot slots row rows same = ap suc same
  one_less false slot slots row rows same = same

  pub slots_count : (kept : List KeptRow) (slots : List ℕ) → length slots ≡ length kept → length (slots_where test kept slots) ≡ length (filter test kept)
  unfolding slots_where
  slots_count [] slots long = refl
  slots_count (row ∷ kept) [] long = absurd (omega (arith, long))
  slots_count (row ∷ kept) (slot ∷ slots) long =
      one_less (test row) slot (slots_where test kept slots) row (filter test kept) (slots_count kept slots (omega (arith, long)))

  count_set : (kept : List KeptRow) (place : ℕ) (row : KeptRow) → place < length kept
      → length (filter test (set kept place row)) + cond (test (kept_at kept place)) 1 0 ≡ length (filter test kept) + cond (test row) 1 0
  count_set [] place row within = absurd (omega (arith, within))
  count_set (one ∷ kept) zero row within = step (test one) (test row) (filter test kept)
    where
      step : (was is : Bool) (rest : List KeptRow) → length (cond is (row ∷ rest) rest) + cond was 1 0 ≡ length (cond was (one ∷ rest) rest) + cond is 1 0
      step true true rest = refl
      step true false rest = omega arith
      step false true rest = omega arith
      step false false rest = refl
  count_set (one ∷ kept) (suc place) row within = step (test one) _ _ _ _ (count_set kept place row (omega (arith, within)))
    where
      step : (passes : Bool) (xs ys : List KeptRow) (a b : ℕ) → length xs + a ≡ length ys + b
          → length (cond passes (one ∷ xs) xs) + a ≡ length (cond passes (one ∷ ys) ys) + b
      step true xs ys a b same = omega (arith, same)
      step false xs ys a b same = same

  count_less : (kept : List KeptRow) (place : ℕ) → place < length kept
      → length (filter test (remove kept place)) + cond (test (kept_at kept place)) 1 0 ≡ length (filter test kept)
  count_less [] place within = absurd (omega (arith, within))
  count_less (one ∷ kept) zero within = step (test one) (filter test kept)
    where
      step : (was : Bool) (rest : List KeptRow) → length rest + cond was 1 0 ≡ length (cond was (one ∷ rest) rest)
      step true rest = omega arith
      step false rest = omega arith
  count_less (one ∷ kept) (suc place) within = step (test one) _ _ _ (count_less kept place (omega (arith, within)))
    where
      step : (passes : Bool) (xs ys : List KeptRow) (a : ℕ) → length xs + a ≡ length ys → length (cond passes (one ∷ xs) xs) + a ≡ length (cond passes (one ∷ ys) ys)
      step true xs ys a same = omega (arith, same)
      step false xs ys a same = same

  count_more : (kept : List KeptRow) (row : KeptRow) → length (filter test (kept ++ row ∷ [])) ≡ length (filter test kept) + cond (test row) 1 0
  count_more kept row =
      ap length (filter-append test kept (row ∷ [])) ∙ length-append (filter test kept) (filter test (row ∷ []))
      ∙ ap (λ n. length (filter test kept) + n) (step (test row))
    where
      step : (passes : Bool) → length (cond passes (row ∷ []) []) ≡ cond passes 1 0
      step true = refl
      step false = refl

  pub counted_added : (kept : List KeptRow) (row : KeptRow) (old new : ℕ) → old ≡ length (filter test kept) → new ≡ old + cond (test row) 1 0
      → new ≡ length (filter test (kept ++ row ∷ []))
  counted_added kept row old new before one = omega (arith, count_more kept row, before, one)

  pub counted_set : (kept : List KeptRow) (place : ℕ) (was row : KeptRow) (old new : ℕ) → place < length kept → kept_at kept place ≡ was
      → old ≡ length (filter test kept) → new ≡ old - cond (test was) 1 0 + cond (test row) 1 0 → new ≡ length (filter test (set kept place row))
  counted_set kept place was row old new within there before one =
      let same : cond {A = ℕ} (test (kept_at kept place)) 1 0 ≡ cond (test was) 1 0 = ap (λ (r : KeptRow). cond {A = ℕ} (test r) 1 0) there in
      let left : cond {A = ℕ} (test (kept_at kept place)) 1 0 ≤ length (filter test kept) = omega (arith, count_less kept place within) in
      omega (arith, count_set kept place row within, before, one, same, left)

  pub counted_removed : (kept : List KeptRow) (place : ℕ) (was : KeptRow) (old new : ℕ) → place < length kept → kept_at kept place ≡ was
      → old ≡ length (filter test kept) → new ≡ old - cond (test was) 1 0 → new ≡ length (filter test (remove kept place))
  counted_removed kept place was old new within there before one =
      let same : cond {A = ℕ} (test (kept_at kept place)) 1 0 ≡ cond (test was) 1 0 = ap (λ (r : KeptRow). cond {A = ℕ} (test r) 1 0) there in
      omega (arith, count_less kept place within, before, one, same)

-- ---- of no rows

pub tally_none : (composing seats : List ℕ) → composing ≡ [] → seats ≡ [] → IsTally [] [] 0 composing seats
unfolding slots_where
tally_none composing seats one other = record { counted = refl; composed = one; seated = other }
