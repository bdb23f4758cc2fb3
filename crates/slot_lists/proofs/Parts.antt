-- A rising list in two parts, round a slot.
use Rattle.std.proofs.Common.{Result, Ok, Err, ◌≡◌, ℕ, ◌<◌, ◌≤◌, ◌+◌, inl, inr, eqb, Bool, true, false, not, List, [], ◌∷◌, ◌++◌, length, take, drop, get_or, refl, sym, ap, ◌∙◌, subst, arith}
use Rattle.std.specs.Prelude.{nat_lt}
use Rattle.std.specs.Ordering.{nat_cmp}
use Rattle.std.specs.Result.{IfErr, IfOk, MatchResult}
use Rattle.std.specs.List.{All, filter, list_any}
use Rattle.std.specs.List.Sorted.{IsBinarySearchResult, IsStrictlyIncreasing}
use Rattle.std.proofs.lemmas.List.Sorted.{searched}
use Rattle.std.proofs.lemmas.Bool.{cases_order, eq-eqb, ne_eqb, lt-ltb, le-ltb, or_from}
use Rattle.std.proofs.lemmas.List.{append-nil, drop_more, get_or-drop, get_or-take, get_or_default, length-drop, length-take-le, take-append-drop}
use Rattle.std.proofs.lemmas.List.Elements.{All-head, All-tail, All-weaker, filter-append}
use Rattle.std.proofs.lemmas.List.Folds.{list_any-append}
use Rattle.std.proofs.lemmas.List.Kept.{AllPairs-from_increasing}
use Rattle.slot_ranks.specs.Slots.{is_among}
use Rattle.slot_lists.specs.Rising.{BelongsAt, StandsAt, with_slot, without_slot}

-- ---- filters

pub filter_all : {X : Type 0} (p : X → Bool) (xs : List X) → All (λ x. p x ≡ true) xs → filter p xs ≡ xs
filter_all p [] all = refl
filter_all p (x ∷ xs) all = rw (All-head (λ y. p y ≡ true) x xs all) (ap (λ ys. x ∷ ys) (filter_all p xs (All-tail (λ y. p y ≡ true) x xs all)))

pub filter_none : {X : Type 0} (p : X → Bool) (xs : List X) → All (λ x. p x ≡ false) xs → filter p xs ≡ []
filter_none p [] all = refl
filter_none p (x ∷ xs) all = rw (All-head (λ y. p y ≡ false) x xs all) (filter_none p xs (All-tail (λ y. p y ≡ false) x xs all))

-- two tests that agree at each element of a list
pub filter_same : {X : Type 0} (p q : X → Bool) (xs : List X) → All (λ x. p x ≡ q x) xs → filter p xs ≡ filter q xs
filter_same p q [] all = refl
filter_same p q (x ∷ xs) all =
    rw (All-head (λ y. p y ≡ q y) x xs all, filter_same p q xs (All-tail (λ y. p y ≡ q y) x xs all)) refl

pub any_none : {X : Type 0} (p : X → Bool) (xs : List X) → All (λ x. p x ≡ false) xs → list_any p xs ≡ false
any_none p [] all = refl
any_none p (x ∷ xs) all = or_from (p x) (list_any p xs) (All-head (λ y. p y ≡ false) x xs all) (any_none p xs (All-tail (λ y. p y ≡ false) x xs all))

-- ---- the tests of a slot, at the lesser and at the greater ones

below_apart : (slot x : ℕ) → x < slot → not (eqb x slot) ≡ true
below_apart slot x less = ap not (ne_eqb x slot (λ e. absurd (omega arith)))

above_apart : (slot x : ℕ) → slot < x → not (eqb x slot) ≡ true
above_apart slot x more = ap not (ne_eqb x slot (λ e. absurd (omega arith)))

module _ (slot : ℕ) (front behind : List ℕ) (below : All (λ x. x < slot) front) (above : All (λ x. slot < x) behind) where
  low_front : filter (λ x. nat_lt x slot) front ≡ front
  low_front = filter_all (λ x. nat_lt x slot) front (All-weaker (λ x. x < slot) (λ x. nat_lt x slot ≡ true) (λ x h. lt-ltb x slot h) front below)

  low_behind : filter (λ x. nat_lt x slot) behind ≡ []
  low_behind = filter_none (λ x. nat_lt x slot) behind (All-weaker (λ x. slot < x) (λ x. nat_lt x slot ≡ false) (λ x h. le-ltb x slot (omega arith)) behind above)

  high_front : filter (λ x. nat_lt slot x) front ≡ []
  high_front = filter_none (λ x. nat_lt slot x) front (All-weaker (λ x. x < slot) (λ x. nat_lt slot x ≡ false) (λ x h. le-ltb slot x (omega arith)) front below)

  high_behind : filter (λ x. nat_lt slot x) behind ≡ behind
  high_behind = filter_all (λ x. nat_lt slot x) behind (All-weaker (λ x. slot < x) (λ x. nat_lt slot x ≡ true) (λ x h. lt-ltb slot x h) behind above)

  other_front : filter (λ x. not (eqb x slot)) front ≡ front
  other_front = filter_all (λ x. not (eqb x slot)) front (All-weaker (λ x. x < slot) (λ x. not (eqb x slot) ≡ true) (λ x h. below_apart slot x h) front below)

  other_behind : filter (λ x. not (eqb x slot)) behind ≡ behind
  other_behind = filter_all (λ x. not (eqb x slot)) behind (All-weaker (λ x. slot < x) (λ x. not (eqb x slot) ≡ true) (λ x h. above_apart slot x h) behind above)

  self_low : nat_lt slot slot ≡ false
  self_low = le-ltb slot slot (omega arith)

  self_same : eqb slot slot ≡ true
  self_same = eq-eqb slot slot refl

  pub with_apart : with_slot slot (front ++ behind) ≡ front ++ slot ∷ behind
  with_apart =
      rw (
        filter-append (λ x. nat_lt x slot) front behind,
        filter-append (λ x. nat_lt slot x) front behind,
        low_front,
        low_behind,
        high_front,
        high_behind,
        append-nil front,
      ) refl

  pub with_there : with_slot slot (front ++ slot ∷ behind) ≡ front ++ slot ∷ behind
  with_there =
      rw (
        filter-append (λ x. nat_lt x slot) front (slot ∷ behind),
        filter-append (λ x. nat_lt slot x) front (slot ∷ behind),
        self_low,
        low_front,
        low_behind,
        high_front,
        high_behind,
        append-nil front,
      ) refl

  pub without_apart : without_slot slot (front ++ behind) ≡ front ++ behind
  without_apart = rw (filter-append (λ x. not (eqb x slot)) front behind, other_front, other_behind) refl

  pub without_there : without_slot slot (front ++ slot ∷ behind) ≡ front ++ behind
  without_there = rw (filter-append (λ x. not (eqb x slot)) front (slot ∷ behind), self_same, other_front, other_behind) refl

  pub among_apart : is_among (front ++ behind) slot ≡ false
  among_apart =
      list_any-append (λ x. eqb x slot) front behind
      ∙ or_from (list_any (λ x. eqb x slot) front) (list_any (λ x. eqb x slot) behind)
      (any_none (λ x. eqb x slot) front (All-weaker (λ x. x < slot) (λ x. eqb x slot ≡ false) (λ x h. ne_eqb x slot (λ e. absurd (omega arith))) front below))
      (any_none (λ x. eqb x slot) behind (All-weaker (λ x. slot < x) (λ x. eqb x slot ≡ false) (λ x h. ne_eqb x slot (λ e. absurd (omega arith))) behind above))

-- ---- places

pub stands : (xs : List ℕ) (slot at : ℕ) → IsStrictlyIncreasing xs → at < length xs → get_or xs at 0 ≡ slot → StandsAt xs slot at
stands xs slot at rises within is =
    let pairs = AllPairs-from_increasing xs rises in
    let short = length-take-le at xs (omega arith) in
    let rest = length-drop (at + 1) xs in
    record {
      within = within;
      whole = sym (take-append-drop at xs) ∙ ap (λ ys. take at xs ++ ys) (drop_more xs at 0 within)
          ∙ ap (λ x. take at xs ++ x ∷ drop (at + 1) xs) is;
      below = λ k d h. (
          let before : k < at = omega arith in
          let less = pairs k at d before within in
          let same = get_or_default xs at d 0 within ∙ is in
          let read = get_or-take at xs k d before in
          omega arith);
      above = λ k d h. (
          let inside : at + 1 + k < length xs = omega arith in
          let more = pairs at (at + 1 + k) d (omega arith) inside in
          let same = get_or_default xs at d 0 within ∙ is in
          let read = get_or-drop (at + 1) xs k d in
          omega arith);
    }

pub belongs : (xs : List ℕ) (slot at : ℕ) → at ≤ length xs → ((k : ℕ) → k < at → get_or xs k 0 < slot)
    → ((k : ℕ) → at ≤ k → k < length xs → slot < get_or xs k 0) → BelongsAt xs slot at
belongs xs slot at within less more =
    let short = length-take-le at xs within in
    let rest = length-drop at xs in
    record {
      within = within;
      below = λ k d h. (
          let before : k < at = omega arith in
          let read = get_or-take at xs k d before in
          let same = get_or_default xs k d 0 (omega arith) in
          let small = less k before in
          omega arith);
      above = λ k d h. (
          let inside : at + k < length xs = omega arith in
          let read = get_or-drop at xs k d in
          let same = get_or_default xs (at + k) d 0 inside in
          let great = more (at + k) (omega arith) inside in
          omega arith);
    }

-- ---- what a binary search gives

pub never_falls : (xs : List ℕ) → IsStrictlyIncreasing xs → (i j : ℕ) → i ≤ j → j < length xs → get_or xs i 0 ≤ get_or xs j 0
never_falls xs rises i j order within = elim (cases_order i j) [
  | inl same ↦ (let P : ℕ → Type 0 = λ k. get_or xs i 0 ≤ get_or xs k 0 in subst P same (omega arith))
  | inr (inl less) ↦ (let more = AllPairs-from_increasing xs rises i j 0 less within in omega arith)
  | inr (inr more) ↦ absurd (omega arith)
]

abbrev IsFound : List ℕ → ℕ → Result ℕ ℕ → Type 0
IsFound xs slot r = MatchResult r (λ i. (i < length xs) × (get_or xs i 0 ≡ slot))
    (λ i. (i ≤ length xs) × ((k : ℕ) → k < i → get_or xs k 0 < slot) × ((k : ℕ) → i ≤ k → k < length xs → slot < get_or xs k 0))

found_there : (xs : List ℕ) (slot : ℕ) (r : Result ℕ ℕ) → IsStrictlyIncreasing xs → IsFound xs slot r → IfOk r (StandsAt xs slot)
found_there xs slot (Ok i) rises found = stands xs slot i rises found.0 found.1
found_there xs slot (Err i) rises found = tt

found_absent : (xs : List ℕ) (slot : ℕ) (r : Result ℕ ℕ) → IsFound xs slot r → IfErr r (BelongsAt xs slot)
found_absent xs slot (Ok i) found = tt
found_absent xs slot (Err i) found = belongs xs slot i found.0 found.1 found.2

pub search_ok : (xs : List ℕ) (slot : ℕ) (r : Result ℕ ℕ) → IsBinarySearchResult (λ y. nat_cmp y slot) xs r → IsStrictlyIncreasing xs
    → IfOk r (StandsAt xs slot)
search_ok xs slot r result rises = found_there xs slot r rises (searched xs slot r result (never_falls xs rises))

pub search_err : (xs : List ℕ) (slot : ℕ) (r : Result ℕ ℕ) → IsBinarySearchResult (λ y. nat_cmp y slot) xs r → IsStrictlyIncreasing xs
    → IfErr r (BelongsAt xs slot)
search_err xs slot r result rises = found_absent xs slot r (searched xs slot r result (never_falls xs rises))

-- ---- lists with a slot and without it, by its place

pub with_at : (xs : List ℕ) (slot at : ℕ) → StandsAt xs slot at → xs ≡ with_slot slot xs
with_at xs slot at here =
    here.whole ∙ sym (with_there slot (take at xs) (drop (at + 1) xs) here.below here.above) ∙ ap (with_slot slot) (sym here.whole)

pub without_at : (xs : List ℕ) (slot at : ℕ) → StandsAt xs slot at → take at xs ++ drop (at + 1) xs ≡ without_slot slot xs
without_at xs slot at here =
    sym (without_there slot (take at xs) (drop (at + 1) xs) here.below here.above) ∙ ap (without_slot slot) (sym here.whole)

pub with_between : (xs : List ℕ) (slot at : ℕ) → BelongsAt xs slot at → take at xs ++ slot ∷ drop at xs ≡ with_slot slot xs
with_between xs slot at gap =
    sym (with_apart slot (take at xs) (drop at xs) gap.below gap.above) ∙ ap (with_slot slot) (take-append-drop at xs)

pub without_none : (xs : List ℕ) (slot at : ℕ) → BelongsAt xs slot at → xs ≡ without_slot slot xs
without_none xs slot at gap =
    sym (take-append-drop at xs) ∙ sym (without_apart slot (take at xs) (drop at xs) gap.below gap.above)
    ∙ ap (without_slot slot) (take-append-drop at xs)

pub among_none : (xs : List ℕ) (slot at : ℕ) → BelongsAt xs slot at → is_among xs slot ≡ false
among_none xs slot at gap =
    ap (λ ys. is_among ys slot) (sym (take-append-drop at xs)) ∙ among_apart slot (take at xs) (drop at xs) gap.below gap.above
