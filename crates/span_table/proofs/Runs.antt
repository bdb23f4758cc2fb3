-- Runs of slots: those whose numbers change as the gap goes elsewhere, and those whose rows go.
use Rattle.std.proofs.Common.{◌≡◌, ℕ, ◌≤◌, ◌+◌, ◌&&◌, suc, zero, inl, inr, eqb, cond, not, Bool, true, false, List, [], ◌∷◌, ◌++◌, length, map, take, get_or, refl, sym, ap, ◌∙◌, subst, arith}
use Rattle.std.specs.List.{All, Contains, filter, range_with_len}
use Rattle.std.specs.List.Sorted.{IsPermutation}
use Rattle.std.proofs.lemmas.Bool.{cases_eq, cases_Bool, cond-true, cond-false, eq-eqb, eqb-true, ne_eqb, false≢true}
use Rattle.std.proofs.lemmas.Bool.Decides.{Decides-eqb}
use Rattle.std.proofs.lemmas.List.{get_or_default, get_or-map, map-append, take_all, take_more}
use Rattle.std.proofs.lemmas.List.Elements.{All-filter, All-map, filter-append}
use Rattle.std.proofs.lemmas.List.Filters.{length-filter_both}
use Rattle.std.proofs.lemmas.List.Kept.{AllPairs-from_increasing, IsStrictlyIncreasing-filter}
use Rattle.std.proofs.lemmas.List.Sorted.{All-permutation, Contains-permutation}
use Rattle.std.proofs.lemmas.Map.Keys.{IsDistinct-IsPermutation}
use Rattle.std.proofs.lemmas.Map.Made.{AllPairs-from_IsDistinct, IsDistinct-from_AllPairs}
use Rattle.slot_ranks.specs.Slots.{is_among, is_live, line}
use Rattle.slot_ranks.proofs.Below.{range_parts}
use Rattle.slot_ranks.proofs.Laws.{line_rises}
use Rattle.span_table.specs.declared.slots.Fixed.{Fixed}
use Rattle.span_table.specs.Numbers.{crosses, opened, shut}
use Rattle.span_table.specs.Slots.{AreKept, HasOnce, IsShut, IsWritten, crossing, row_in, rows_in}
use Rattle.span_table.specs.Table.{AreNumbers}
use Rattle.span_table.proofs.Ends.{stood}
use Rattle.span_table.proofs.Lists.{at_image}
use Rattle.span_table.proofs.Places.{IsCarrying, among_has, among_live, has_among, live_among}

-- ---- slots among others

pub among_of : (xs : List ℕ) (k : ℕ) → Contains xs k → is_among xs k ≡ true
among_of xs k has = among_has xs k has.0 has.1 (get_or_default xs has.0 0 k has.1 ∙ has.2)

-- what holds of each holds of one among them
pub all_among : (P : ℕ → Type 0) (xs : List ℕ) (k : ℕ) → All P xs → is_among xs k ≡ true → P k
all_among P xs k all among = let has = has_among xs k among in subst P has.2 (all has.0 k has.1)

pub among_filter : (p : ℕ → Bool) (xs : List ℕ) (k : ℕ) → is_among (filter p xs) k ≡ (is_among xs k && p k)
among_filter p [] k = refl
among_filter p (x ∷ xs) k =
    let rest = among_filter p xs k in
    elim (cases_Bool (p x)) [
      | inl passes ↦ elim (cases_Bool (eqb x k)) [
        | inl here ↦ (let same = sym (ap p (eqb-true x k here)) ∙ passes in rw (passes, here, same) refl)
        | inr other ↦ rw (passes, other, rest) refl
      ]
      | inr fails ↦ elim (cases_Bool (eqb x k)) [
        | inl here ↦ (let same = sym (ap p (eqb-true x k here)) ∙ fails in rw (fails, here, rest, same) (and_false (is_among xs k)))
        | inr other ↦ rw (fails, other, rest) refl
      ]
    ]
  where
    and_false : (b : Bool) → (b && false) ≡ false
    and_false true = refl
    and_false false = refl

both_first : (a b : Bool) → (a && b) ≡ true → a ≡ true
both_first true b is = refl
both_first false b is = is

both_second : (a b : Bool) → (a && b) ≡ true → b ≡ true
both_second true b is = is
both_second false b is = absurd (false≢true is)

pub record IsChosen (p : ℕ → Bool) (xs : List ℕ) (k : ℕ) : Type 0 where
  pub among : is_among xs k ≡ true
  pub passes : p k ≡ true

pub chosen_all : (p : ℕ → Bool) (xs : List ℕ) → All (IsChosen p xs) (filter p xs)
chosen_all p xs i d h =
    let k = get_or (filter p xs) i d in
    let both = sym (among_filter p xs k) ∙ among_has (filter p xs) k i h (get_or_default (filter p xs) i 0 d h) in
    record { among = both_first (is_among xs k) (p k) both; passes = both_second (is_among xs k) (p k) both }

-- ---- the numbers of a run

pub written_all : {f : ℕ → ℕ} (slots : List ℕ) {place : ℕ} {old new : List ℕ} → IsCarrying f slots place old new → place ≡ length slots
    → IsWritten f slots old new
written_all {f = f} slots {old = old} {new = new} so_far all slot = elim (cases_Bool (is_among slots slot)) [
  | inl among ↦ (let has = has_among slots slot among in
      let at = get_or_default slots has.0 0 slot has.1 ∙ has.2 in
      let within = has.1 in
      ap (λ k. get_or new k 0) (sym at) ∙ so_far.front has.0 (omega arith) ∙ ap (λ k. f (get_or old k 0)) at ∙ sym (cond-true _ _ _ among))
  | inr other ↦ so_far.behind slot (λ i h e. false≢true (sym other ∙ among_has slots slot i (omega arith) e)) ∙ sym (cond-false _ _ _ other)
]

-- ---- the run of slots whose numbers change

eqb_flips : (x y : ℕ) → eqb x y ≡ eqb y x
eqb_flips x y = elim (cases_eq x y) [
  | inl same ↦ eq-eqb x y same ∙ sym (eq-eqb y x (sym same))
  | inr other ↦ ne_eqb x y other ∙ sym (ne_eqb y x (λ e. other (sym e)))
]

module _ (live : List Bool) (p : ℕ → Bool) (run : List ℕ) (same : IsPermutation (filter p (line live)) run) where
  pub run_chosen : All (IsChosen p (line live)) run
  run_chosen = All-permutation (IsChosen p (line live)) (filter p (line live)) run same (chosen_all p (line live))

  pub run_live : All (λ slot. is_live live slot ≡ true) run
  run_live i d h = among_live live (get_or run i d) (run_chosen i d h).among

  pub run_passes : All (λ slot. p slot ≡ true) run
  run_passes i d h = (run_chosen i d h).passes

  pub run_once : HasOnce run
  run_once i j before within =
      let rises = AllPairs-from_increasing (filter p (line live)) (IsStrictlyIncreasing-filter p (line live) (line_rises live)) in
      let apart = IsDistinct-from_AllPairs Decides-eqb (filter p (line live)) (λ a b d low high e.
      let less = rises a b d low high in absurd (omega arith)) in
      AllPairs-from_IsDistinct Decides-eqb run (IsDistinct-IsPermutation eqb eqb_flips (filter p (line live)) run same apart) i j 0 before within

  pub run_has : (slot : ℕ) → is_live live slot ≡ true → p slot ≡ true → is_among run slot ≡ true
  run_has slot is passes =
      let among = sym (live_among live slot) ∙ is in
      let both : is_among (filter p (line live)) slot ≡ true = among_filter p (line live) slot ∙ rw (among, passes) refl in
      among_of run slot (Contains-permutation (filter p (line live)) run slot same (has_among (filter p (line live)) slot both))

-- all numbers of rows are carried where those of a run are
pub all_carried : (gap to room : ℕ) (live : List Bool) (run old new : List ℕ) → IsPermutation (crossing gap to room old (line live)) run
    → IsWritten (λ number. opened to room (shut gap room number)) run old new
    → ((slot : ℕ) → is_live live slot ≡ true → IsShut gap room (get_or old slot 0))
    → (slot : ℕ) → is_live live slot ≡ true → get_or new slot 0 ≡ opened to room (shut gap room (get_or old slot 0))
all_carried gap to room live run old new same written valid slot is = elim (cases_Bool (is_among run slot)) [
  | inl among ↦ written slot ∙ cond-true _ _ _ among
  | inr other ↦ written slot ∙ cond-false _ _ _ other ∙ elim (cases_Bool (crosses gap to room (get_or old slot 0))) [
    | inl between ↦ absurd (false≢true (sym other ∙ run_has live (λ k. crosses gap to room (get_or old k 0)) run same slot is between))
    | inr beside ↦ sym (stood gap to room (get_or old slot 0) (valid slot is) beside)
  ]
]

-- ---- rows that go

one_filtered : (q : ℕ → Bool) (x : ℕ) → filter q (x ∷ []) ≡ cond (q x) (x ∷ []) []
one_filtered q x = elim (cases_Bool (q x)) [
  | inl passes ↦ rw passes refl
  | inr fails ↦ rw fails refl
]

module _ {X : Type 0} (f : ℕ → X) (q : ℕ → Bool) (xs : List ℕ) (blank : X) where
  left_of : (n : ℕ) → n ≤ length xs → map f (filter q (take n xs))
      ≡ map (λ i. get_or (map f xs) i blank) (filter (λ i. q (get_or xs i 0)) (range_with_len 0 n))
  left_of zero within = refl
  left_of (suc n) within =
      let rest = left_of n (omega arith) in
      let e : suc n ≡ n + 1 = omega arith in
      let z : 0 + n ≡ n = omega arith in
      let grown = ap (λ k. take k xs) e ∙ take_more xs n 0 (omega arith) in
      let ranged : range_with_len 0 (suc n) ≡ range_with_len 0 n ++ n ∷ [] =
      ap (range_with_len 0) e ∙ range_parts 0 n 1 ∙ ap (λ k. range_with_len 0 n ++ k ∷ []) z in
      let here : get_or (map f xs) n blank ≡ f (get_or xs n 0) = get_or-map f xs n 0 blank (omega arith) in
      let last : map f (filter q (get_or xs n 0 ∷ []))
      ≡ map (λ i. get_or (map f xs) i blank) (filter (λ i. q (get_or xs i 0)) (n ∷ [])) =
      elim (cases_Bool (q (get_or xs n 0))) [
        | inl passes ↦ rw (passes, here) refl
        | inr fails ↦ rw fails refl
      ] in
      ap (λ ys. map f (filter q ys)) grown ∙ ap (map f) (filter-append q (take n xs) (get_or xs n 0 ∷ []))
      ∙ map-append f (filter q (take n xs)) (filter q (get_or xs n 0 ∷ [])) ∙ rw (rest, last)
      (sym (ap (λ ys. map (λ i. get_or (map f xs) i blank) (filter (λ i. q (get_or xs i 0)) ys)) ranged
      ∙ ap (map (λ i. get_or (map f xs) i blank)) (filter-append (λ i. q (get_or xs i 0)) (range_with_len 0 n) (n ∷ []))
      ∙ map-append (λ i. get_or (map f xs) i blank) (filter (λ i. q (get_or xs i 0)) (range_with_len 0 n)) (filter (λ i. q (get_or xs i 0)) (n ∷ []))))

  -- what is left of a list, by places
  pub left_by_places : map f (filter q xs)
      ≡ map (λ i. get_or (map f xs) i blank) (filter (λ i. q (get_or xs i 0)) (range_with_len 0 (length xs)))
  left_by_places = ap (λ ys. map f (filter q ys)) (sym (take_all (length xs) xs (omega arith))) ∙ left_of (length xs) (omega arith)

pub filter_short : (q : ℕ → Bool) (xs : List ℕ) → length (filter q xs) ≤ length xs
filter_short q xs = let both = length-filter_both q (λ x. not (q x)) (λ x. refl) xs in omega arith

pub left_kept : {gap room : ℕ} {fixed : List Fixed} {starts ends : List ℕ} {live : List Bool} (left : List Bool) (q : ℕ → Bool)
    → AreKept gap room fixed starts ends live → length left ≡ length live → line left ≡ filter q (line live)
    → AreKept gap room fixed starts ends left
left_kept {gap = gap} {room = room} {fixed = fixed} {starts = starts} {ends = ends} {live = live} left q kept long slots =
    let P : List ℕ → Type 0 = λ xs. All (AreNumbers gap room) (rows_in fixed starts ends xs) in
    record {
      numbers = subst P (sym slots) (All-map (AreNumbers gap room) (row_in fixed starts ends) (filter q (line live))
          (All-filter q (λ slot. AreNumbers gap room (row_in fixed starts ends slot)) (line live)
          (at_image (AreNumbers gap room) (row_in fixed starts ends) (line live) kept.numbers)));
      fixed_long = kept.fixed_long ∙ sym long;
      starts_long = kept.starts_long ∙ sym long;
      ends_long = kept.ends_long ∙ sym long;
    }
