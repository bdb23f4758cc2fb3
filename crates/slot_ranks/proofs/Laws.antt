-- The live slots in order: what pushes, clears and squeezes leave of them, and how ranks and slots answer each other.
use Rattle.std.proofs.Common.{◌≡◌, ◌≢◌, ℕ, ◌<◌, ◌≤◌, ◌+◌, ◌-◌, suc, zero, inl, inr, eqb, Bool, true, false, ◌&&◌, List, [], ◌∷◌, ◌++◌, length, Some, map, slice_get, take, drop, replicate, get_or, refl, sym, ap, ◌∙◌, subst, arith}
use Rattle.std.specs.List.{Contains, filter, range_with_len}
use Rattle.std.specs.List.Sorted.{IsStrictlyIncreasing}
use Rattle.std.proofs.Math.ListN.{set}
use Rattle.std.proofs.lemmas.Bool.{cases_lt, cases_eq, cases_Bool, cond-true, cond-false, eq-eqb, ne_eqb}
use Rattle.std.proofs.lemmas.List.{append-nil, drop_at, drop_more, get_or_append_left, get_or_at, get_or_default, get_or-map, get_or_push, get_or-replicate, get_or-set_other, get_or-set_same, get_or-take, append_assoc, length-map, length-replicate, length-set, length-take-le, length_push, same_lists, take_at}
use Rattle.std.proofs.lemmas.List.Elements.{filter_agree}
use Rattle.std.proofs.lemmas.Option.{get_or_from_slice_get, slice_get_within}
use Rattle.std.proofs.lemmas.List.FromFn.{get_or-range_with_len, length-range_with_len}
use Rattle.std.proofs.lemmas.List.Kept.{IsStrictlyIncreasing-filter}
use Rattle.slot_ranks.specs.Slots.{cleared, is_live, line_below, line, rank, without}
use Rattle.slot_ranks.proofs.Below.{among-suc, among-zero, dead_past, line-suc, line-zero, line_agrees, line_parts, line_past, live_among, live_within, parted_dead, parted_live, among_agrees, rank_live, rank_dead, ranks_rise}

-- ---- ranks and slots

-- a live slot stands at its rank
pub slot_at_rank : (live : List Bool) (slot : ℕ) → is_live live slot ≡ true → get_or (line live) (rank live slot) 0 ≡ slot
slot_at_rank live slot is =
    rw (parted_live live slot (length live) (live_within live slot is) is)
    (get_or_at (line_below live slot) slot _ 0 (rank live slot) refl)

-- it counts among the live ones
pub rank_within_line : (live : List Bool) (slot : ℕ) → is_live live slot ≡ true → rank live slot < length (line live)
rank_within_line live slot is =
    let within = live_within live slot is in
    let more = rank_live live slot is in
    let rise = ranks_rise live (slot + 1) (length live) (omega arith) in
    omega arith

pub record IsRanked (live : List Bool) (place slot : ℕ) : Type 0 where
  pub is : is_live live slot ≡ true
  pub at : rank live slot ≡ place

ranked_below : (live : List Bool) (n place : ℕ) → place < rank live n → IsRanked live place (get_or (line_below live n) place 0)
ranked_below live zero place within = let none = ap length (line-zero live) in absurd (omega arith)
ranked_below live (suc n) place within =
    let P : ℕ → Type 0 = IsRanked live place in
    let grown = line-suc live n in
    elim (cases_Bool (is_live live n)) [
      | inl is ↦ (let all = grown ∙ ap (λ xs. line_below live n ++ xs) (cond-true _ _ _ is) in
          let long = ap length all ∙ length_push (line_below live n) n in
          elim (cases_lt place (rank live n)) [
            | inl before ↦ subst P (sym (ap (λ xs. get_or xs place 0) all ∙ get_or_append_left (line_below live n) (n ∷ []) 0 place before))
                (ranked_below live n place before)
            | inr last ↦ (let here : rank live n ≡ place = omega arith in
                subst P (sym (ap (λ xs. get_or xs place 0) all ∙ get_or_push (line_below live n) n 0 place here)) (record { is = is; at = here }))
          ])
      | inr is ↦ (let all = grown ∙ ap (λ xs. line_below live n ++ xs) (cond-false _ _ _ is) ∙ append-nil (line_below live n) in
          let long = ap length all in
          subst P (sym (ap (λ xs. get_or xs place 0) all)) (ranked_below live n place (omega arith)))
    ]

-- what stands at a place is live, and has that rank
pub ranked_at : (live : List Bool) (place : ℕ) → place < length (line live) → IsRanked live place (get_or (line live) place 0)
ranked_at live place within = ranked_below live (length live) place within

-- the live slots are those of the line
pub line_has : (live : List Bool) (slot : ℕ) → is_live live slot ≡ true → Contains (line live) slot
line_has live slot is =
    let within = rank_within_line live slot is in
    (rank live slot, within, get_or_default (line live) (rank live slot) slot 0 within ∙ slot_at_rank live slot is)

pub line_of : (live : List Bool) (slot : ℕ) → Contains (line live) slot → is_live live slot ≡ true
line_of live slot has =
    let P : ℕ → Type 0 = λ s. is_live live s ≡ true in
    subst P (get_or_default (line live) has.0 0 slot has.1 ∙ has.2) (ranked_at live has.0 has.1).is

-- ---- order

range_rises : (n : ℕ) → IsStrictlyIncreasing (range_with_len 0 n)
range_rises n k within =
    let long = length-range_with_len 0 n in
    let first = get_or-range_with_len 0 n k 0 (omega arith) in
    let second = get_or-range_with_len 0 n (k + 1) 0 (omega arith) in
    omega arith

pub line_rises : (live : List Bool) → IsStrictlyIncreasing (line live)
unfolding line_below
line_rises live = IsStrictlyIncreasing-filter (is_live live) (range_with_len 0 (length live)) (range_rises (length live))

-- ---- one slot further

pub front_live : (live : List Bool) (slot : ℕ) → is_live live slot ≡ true
    → take (rank live (slot + 1)) (line live) ≡ take (rank live slot) (line live) ++ slot ∷ []
front_live live slot is =
    let within = live_within live slot is in
    let behind = live_among live (slot + 1) (length live - (slot + 1)) in
    let whole = parted_live live slot (length live) within is in
    let regroup : line_below live slot ++ slot ∷ behind ≡ (line_below live slot ++ slot ∷ []) ++ behind =
    sym (append_assoc (line_below live slot) (slot ∷ []) behind) in
    let long = length_push (line_below live slot) slot in
    let first : take (rank live slot) (line live) ≡ line_below live slot =
    ap (take (rank live slot)) whole ∙ take_at (line_below live slot) (slot ∷ behind) (rank live slot) refl in
    let both : take (rank live slot + 1) (line live) ≡ line_below live slot ++ slot ∷ [] =
    ap (take (rank live slot + 1)) (whole ∙ regroup) ∙ take_at (line_below live slot ++ slot ∷ []) behind (rank live slot + 1) long in
    ap (λ n. take n (line live)) (rank_live live slot is) ∙ both ∙ ap (λ xs. xs ++ slot ∷ []) (sym first)

pub front_dead : (live : List Bool) (slot : ℕ) → is_live live slot ≡ false
    → take (rank live (slot + 1)) (line live) ≡ take (rank live slot) (line live)
front_dead live slot is = ap (λ n. take n (line live)) (rank_dead live slot is)

-- what stands at a place, where something does
pub ranked_get : (live : List Bool) (place slot : ℕ) → slice_get (line live) place ≡ Some slot → IsRanked live place slot
ranked_get live place slot found =
    let P : ℕ → Type 0 = IsRanked live place in
    subst P (get_or_from_slice_get (line live) place slot 0 found) (ranked_at live place (slice_get_within (line live) place slot found))

-- no two places have one slot
pub places_differ : (live : List Bool) (i j : ℕ) → i < length (line live) → j < length (line live)
    → get_or (line live) i 0 ≡ get_or (line live) j 0 → i ≡ j
places_differ live i j first second same =
    sym (ranked_at live i first).at ∙ ap (rank live) same ∙ (ranked_at live j second).at

-- the first live slot that doesn't stand before another begins what is left from there on
pub walked : (live : List Bool) (from slot : ℕ) → slice_get (line live) (rank live from) ≡ Some slot
    → drop (rank live from) (line live) ≡ slot ∷ drop (rank live (slot + 1)) (line live)
walked live from slot found =
    let ranked = ranked_get live (rank live from) slot found in
    let within = slice_get_within (line live) (rank live from) slot found in
    let here = get_or_from_slice_get (line live) (rank live from) slot 0 found in
    let more = rank_live live slot ranked.is ∙ ap (λ n. n + 1) ranked.at in
    drop_more (line live) (rank live from) 0 within ∙ rw (here, more) refl

-- ---- what is kept by slots

-- what is kept for one live slot alone becomes another
pub map_changed : {X : Type 0} (f g : ℕ → X) (live : List Bool) (slot : ℕ) → is_live live slot ≡ true
    → ((k : ℕ) → k ≢ slot → g k ≡ f k) → map g (line live) ≡ set (map f (line live)) (rank live slot) (g slot)
map_changed f g live slot is same =
    let xs = map f (line live) in
    let at = rank live slot in
    let long = length-map (line live) f in
    let short = length-map (line live) g in
    let inside = rank_within_line live slot is in
    same_lists (map g (line live)) (set xs at (g slot)) (short ∙ sym long ∙ sym (length-set xs at (g slot))) (λ i d h.
    let within : i < length (line live) = omega arith in
    get_or-map g (line live) i 0 d within ∙ elim (cases_eq i at) [
      | inl here ↦ ap (λ k. g (get_or (line live) k 0)) here ∙ ap g (slot_at_rank live slot is)
          ∙ sym (ap (λ k. get_or (set xs at (g slot)) k d) here ∙ get_or-set_same xs at (g slot) d (omega arith))
      | inr other ↦ same (get_or (line live) i 0) (λ e. other (sym (ranked_at live i within).at ∙ ap (rank live) e))
          ∙ sym (get_or-set_other xs at i (g slot) d other ∙ get_or-map f (line live) i 0 d within)
    ])

-- ---- changes

pub line_push : (live : List Bool) → line (live ++ true ∷ []) ≡ line live ++ length live ∷ []
line_push live =
    let long : length (live ++ true ∷ []) ≡ suc (length live) = length_push live true ∙ omega arith in
    let front = line_agrees (live ++ true ∷ []) live (length live) (λ k h. get_or_append_left live (true ∷ []) false k h) in
    let last = get_or_push live true false (length live) refl in
    ap (line_below (live ++ true ∷ [])) long ∙ line-suc (live ++ true ∷ []) (length live)
    ∙ rw (front, last) refl

-- without a slot that only the first list has as live
pub line_without : (xs ys : List Bool) (slot n : ℕ) → slot < n → is_live xs slot ≡ true → is_live ys slot ≡ false
    → ((k : ℕ) → k ≢ slot → is_live xs k ≡ is_live ys k) → line_below ys n ≡ without (rank xs slot) (line_below xs n)
line_without xs ys slot n before was is same =
    let front = line_agrees xs ys slot (λ k h. same k (omega arith)) in
    let rest = among_agrees xs ys (slot + 1) (n - (slot + 1)) (λ k h. same k (omega arith)) in
    let behind = live_among xs (slot + 1) (n - (slot + 1)) in
    let long = length_push (line_below xs slot) slot in
    let regroup : line_below xs slot ++ slot ∷ behind ≡ (line_below xs slot ++ slot ∷ []) ++ behind = sym (append_assoc (line_below xs slot) (slot ∷ []) behind) in
    let whole = parted_live xs slot n before was ∙ regroup in
    let short : line_below ys n ≡ line_below xs slot ++ behind =
    parted_dead ys slot n before is ∙ rw (← front, ← rest) refl in
    let left : take (rank xs slot) (line_below xs n) ≡ line_below xs slot =
    ap (take (rank xs slot)) (parted_live xs slot n before was) ∙ take_at (line_below xs slot) (slot ∷ behind) (rank xs slot) refl in
    let right : drop (rank xs slot + 1) (line_below xs n) ≡ behind =
    ap (drop (rank xs slot + 1)) whole ∙ drop_at (line_below xs slot ++ slot ∷ []) behind (rank xs slot + 1) long in
    short ∙ rw (left, right) refl

pub set_dead : (live : List Bool) (slot : ℕ) → slot < length live → is_live (set live slot false) slot ≡ false
set_dead live slot within = get_or-set_same live slot false false within

pub set_others : (live : List Bool) (slot : ℕ) → (k : ℕ) → k ≢ slot → is_live live k ≡ is_live (set live slot false) k
set_others live slot k other = sym (get_or-set_other live slot k false false other)

take_others : (live : List Bool) (slot : ℕ) → slot + 1 ≡ length live → (k : ℕ) → k ≢ slot → is_live live k ≡ is_live (take slot live) k
take_others live slot last k other = elim (cases_lt k slot) [
  | inl before ↦ sym (get_or-take slot live k false before)
  | inr behind ↦ (let short = length-take-le slot live (omega arith) in
      dead_past live k (omega arith) ∙ sym (dead_past (take slot live) k (omega arith)))
]

pub line_cleared : (live : List Bool) (slot : ℕ) → is_live live slot ≡ true
    → line (cleared live slot) ≡ without (rank live slot) (line live)
line_cleared live slot is =
    let within = live_within live slot is in
    elim (cases_eq (slot + 1) (length live)) [
      | inl last ↦ (let short = length-take-le slot live (omega arith) in
          let dead = dead_past (take slot live) slot (omega arith) in
          let all = line_past (take slot live) (length live) (omega arith) in
          ap line (cond-true (eqb (slot + 1) (length live)) (take slot live) (set live slot false) (eq-eqb _ _ last)) ∙ sym all
          ∙ line_without live (take slot live) slot (length live) within is dead (take_others live slot last))
      | inr inside ↦ (let long = length-set live slot false in
          ap line (cond-false (eqb (slot + 1) (length live)) (take slot live) (set live slot false) (ne_eqb _ _ inside))
          ∙ ap (line_below (set live slot false)) long
          ∙ line_without live (set live slot false) slot (length live) within is (set_dead live slot within) (set_others live slot))
    ]

among_whole : (live : List Bool) (from n : ℕ) → ((k : ℕ) → from ≤ k → k < from + n → is_live live k ≡ true)
    → live_among live from n ≡ range_with_len from n
among_whole live from zero all = among-zero live from
among_whole live from (suc n) all =
    among-suc live from n ∙ cond-true _ _ _ (all from (omega arith) (omega arith))
    ∙ ap (λ xs. from ∷ xs) (among_whole live (from + 1) n (λ k low high. all k (omega arith) (omega arith)))

-- where each slot below one is live
pub line_below_whole : (live : List Bool) (n : ℕ) → ((k : ℕ) → k < n → is_live live k ≡ true) → line_below live n ≡ range_with_len 0 n
line_below_whole live n all =
    let e : n ≡ 0 + n = omega arith in
    ap (line_below live) e ∙ line_parts live 0 n ∙ ap (λ xs. xs ++ live_among live 0 n) (line-zero live)
    ∙ among_whole live 0 n (λ k low high. all k (omega arith))

pub line_whole : (n : ℕ) → line (replicate n true) ≡ range_with_len 0 n
line_whole n =
    ap (line_below (replicate n true)) (length-replicate n true)
    ∙ line_below_whole (replicate n true) n (λ k h. get_or-replicate n k true false h)

filter_both : (p q : ℕ → Bool) (xs : List ℕ) → filter (λ x. p x && q x) xs ≡ filter q (filter p xs)
filter_both p q [] = refl
filter_both p q (x ∷ xs) =
    let rest = filter_both p q xs in
    elim (cases_Bool (p x)) [
      | inl passes ↦ rw (passes, rest) refl
      | inr fails ↦ rw (fails, rest) refl
    ]

-- two lists of which the second has as live what the first has and a test lets through
pub line_filtered : (xs ys : List Bool) (test : ℕ → Bool) → length ys ≡ length xs
    → ((k : ℕ) → is_live ys k ≡ (is_live xs k && test k)) → line ys ≡ filter test (line xs)
unfolding line_below
line_filtered xs ys test long same =
    ap (λ n. filter (is_live ys) (range_with_len 0 n)) long
    ∙ filter_agree (is_live ys) (λ k. is_live xs k && test k) same (range_with_len 0 (length xs))
    ∙ filter_both (is_live xs) test (range_with_len 0 (length xs))
