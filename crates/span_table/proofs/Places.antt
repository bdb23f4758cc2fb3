-- Rows that are kept by slots, as they come, go and change.
use Rattle.std.proofs.Common.{◌≡◌, ◌≢◌, ℕ, ◌<◌, ◌≤◌, ◌+◌, suc, zero, inl, inr, eqb, Bool, true, false, List, [], ◌∷◌, ◌++◌, length, map, take, drop, get_or, refl, sym, ap, ◌∙◌, subst, arith}
use Rattle.std.specs.List.{Contains}
use Rattle.std.proofs.Math.ListN.{set}
use Rattle.std.proofs.lemmas.Bool.{cases_eq, cases_Bool, cond-true, cond-false, eq-eqb, eqb-true, ne_eqb, false≢true}
use Rattle.std.proofs.lemmas.List.{get_or-map, get_or-set_same, get_or-set_other, get_or_append_left, get_or_push, get_or_default, get_or-take, length-append, length-drop, length-map, length-set, length-take-le, map-append, same_lists, take-map, drop-map}
use Rattle.std.proofs.lemmas.Map.Views.{Contains-from_any}
use Rattle.slot_ranks.specs.Slots.{cleared, is_among, is_live, line, rank}
use Rattle.slot_ranks.proofs.Below.{live_within, rank-zero, rank_dead, rank_live, ranks_rise}
use Rattle.slot_ranks.proofs.Laws.{line_of, map_changed, places_differ, rank_within_line, ranked_at, slot_at_rank}
use Rattle.span_table.specs.declared.kept.KeptRow.{KeptRow}
use Rattle.span_table.specs.declared.slots.Fixed.{Fixed}
use Rattle.span_table.specs.Numbers.{opened, shut}
use Rattle.span_table.specs.Slots.{IsPacked, fixed_at, row_in, rows_in}
use Rattle.span_table.specs.Table.{AreNumbers, kept_span, no_row, no_span, seen, span_at, without_at}
use Rattle.span_table.proofs.Lists.{carried_row}

-- ---- lists over slots

-- functions that agree at each place of two lists
pub maps_meet : {X : Type 0} (f g : ℕ → X) (xs ys : List ℕ) → length ys ≡ length xs
    → ((i : ℕ) → i < length xs → g (get_or ys i 0) ≡ f (get_or xs i 0)) → map g ys ≡ map f xs
maps_meet f g xs ys same each =
    let longs = length-map ys g in
    let longer = length-map xs f in
    same_lists (map g ys) (map f xs) (longs ∙ same ∙ sym longer)
    (λ i d h. get_or-map g ys i 0 d (omega arith) ∙ each i (omega arith) ∙ sym (get_or-map f xs i 0 d (omega arith)))

-- ---- one row

-- slots in which the same is kept
pub row_same : (f1 f2 : List Fixed) (s1 s2 e1 e2 : List ℕ) (j k : ℕ) → fixed_at f1 j ≡ fixed_at f2 k
    → get_or s1 j 0 ≡ get_or s2 k 0 → get_or e1 j 0 ≡ get_or e2 k 0 → row_in f1 s1 e1 j ≡ row_in f2 s2 e2 k
unfolding row_in
row_same f1 f2 s1 s2 e1 e2 j k parts starts ends = rw (parts, starts, ends) refl

pub row_is : (fixed : List Fixed) (starts ends : List ℕ) (slot : ℕ) (part : Fixed) (start end : ℕ) → fixed_at fixed slot ≡ part
    → get_or starts slot 0 ≡ start → get_or ends slot 0 ≡ end
    → row_in fixed starts ends slot ≡ record { id = part.id; flags = part.flags; start = start; end = end; what = part.what }
unfolding row_in
row_is fixed starts ends slot part start end parts from to = rw (parts, from, to) refl

pub row_start : (fixed : List Fixed) (starts ends : List ℕ) (slot : ℕ) → (row_in fixed starts ends slot).start ≡ get_or starts slot 0
unfolding row_in
row_start fixed starts ends slot = refl

pub row_end : (fixed : List Fixed) (starts ends : List ℕ) (slot : ℕ) → (row_in fixed starts ends slot).end ≡ get_or ends slot 0
unfolding row_in
row_end fixed starts ends slot = refl

pub row_id : (fixed : List Fixed) (starts ends : List ℕ) (slot : ℕ) → (row_in fixed starts ends slot).id ≡ (fixed_at fixed slot).id
unfolding row_in
row_id fixed starts ends slot = refl

pub row_carried : (fixed : List Fixed) (starts ends new_starts new_ends : List ℕ) (slot old_gap old_room gap room : ℕ)
    → AreNumbers old_gap old_room (row_in fixed starts ends slot)
    → get_or new_starts slot 0 ≡ opened gap room (shut old_gap old_room (get_or starts slot 0))
    → get_or new_ends slot 0 ≡ opened gap room (shut old_gap old_room (get_or ends slot 0))
    → row_in fixed new_starts new_ends slot ≡ kept_span gap room (seen old_gap old_room (row_in fixed starts ends slot))
unfolding row_in
row_carried fixed starts ends new_starts new_ends slot old_gap old_room gap room valid from to =
    carried_row old_gap old_room gap room (row_in fixed starts ends slot) _ _ valid from to

-- ---- rows that change, come and go

module _ (fixed : List Fixed) (starts ends : List ℕ) (live : List Bool) where
  -- the row at a place
  pub row_there : (i : ℕ) (d : KeptRow) → i < length (line live)
      → get_or (rows_in fixed starts ends (line live)) i d ≡ row_in fixed starts ends (get_or (line live) i 0)
  row_there i d within = get_or-map (row_in fixed starts ends) (line live) i 0 d within

  -- and the span there
  pub span_there : (gap room i : ℕ) → i < length (line live)
      → seen gap room (row_in fixed starts ends (get_or (line live) i 0)) ≡ span_at (map (seen gap room) (rows_in fixed starts ends (line live))) i
  span_there gap room i within =
      let long = length-map (line live) (row_in fixed starts ends) in
      ap (seen gap room) (sym (row_there i no_row within))
      ∙ sym (get_or-map (seen gap room) (rows_in fixed starts ends (line live)) i no_row no_span (omega arith))

  pub rows_long : length (rows_in fixed starts ends (line live)) ≡ length (line live)
  rows_long = length-map (line live) (row_in fixed starts ends)

  pub slot_below : (i : ℕ) → i < length (line live) → get_or (line live) i 0 < length live
  slot_below i within = live_within live (get_or (line live) i 0) (ranked_at live i within).is

  pub rows_set : (slot : ℕ) (part : Fixed) (start end : ℕ) → is_live live slot ≡ true
      → length fixed ≡ length live → length starts ≡ length live → length ends ≡ length live
      → rows_in (set fixed slot part) (set starts slot start) (set ends slot end) (line live)
      ≡ set (rows_in fixed starts ends (line live)) (rank live slot)
      (record { id = part.id; flags = part.flags; start = start; end = end; what = part.what })
  rows_set slot part start end is parts from to =
      let within = live_within live slot is in
      map_changed (row_in fixed starts ends) (row_in (set fixed slot part) (set starts slot start) (set ends slot end)) live slot is
      (λ k other. row_same _ _ _ _ _ _ k k (get_or-set_other fixed slot k part _ other) (get_or-set_other starts slot k start 0 other)
      (get_or-set_other ends slot k end 0 other))
      ∙ ap (set (rows_in fixed starts ends (line live)) (rank live slot))
      (row_is _ _ _ slot part start end (get_or-set_same fixed slot part _ (omega arith)) (get_or-set_same starts slot start 0 (omega arith))
      (get_or-set_same ends slot end 0 (omega arith)))

  pub rows_pushed : (part : Fixed) (start end : ℕ)
      → length fixed ≡ length live → length starts ≡ length live → length ends ≡ length live
      → rows_in (fixed ++ part ∷ []) (starts ++ start ∷ []) (ends ++ end ∷ []) (line live ++ length live ∷ [])
      ≡ rows_in fixed starts ends (line live)
      ++ record { id = part.id; flags = part.flags; start = start; end = end; what = part.what } ∷ []
  rows_pushed part start end parts from to =
      let grown = row_in (fixed ++ part ∷ []) (starts ++ start ∷ []) (ends ++ end ∷ []) in
      let old : map grown (line live) ≡ rows_in fixed starts ends (line live) =
      maps_meet (row_in fixed starts ends) grown (line live) (line live) refl (λ i h.
      let below = slot_below i h in
      row_same _ _ _ _ _ _ (get_or (line live) i 0) (get_or (line live) i 0)
      (get_or_append_left fixed (part ∷ []) _ _ (omega arith)) (get_or_append_left starts (start ∷ []) 0 _ (omega arith))
      (get_or_append_left ends (end ∷ []) 0 _ (omega arith))) in
      let last = row_is (fixed ++ part ∷ []) (starts ++ start ∷ []) (ends ++ end ∷ []) (length live) part start end
      (get_or_push fixed part _ (length live) parts) (get_or_push starts start 0 (length live) from)
      (get_or_push ends end 0 (length live) to) in
      map-append grown (line live) (length live ∷ []) ∙ rw (old, last) refl

  -- the rows of other slots, where the lists are cut behind them
  pub rows_cut : (slots : List ℕ) (n : ℕ) → ((i : ℕ) → i < length slots → get_or slots i 0 < n)
      → rows_in (take n fixed) (take n starts) (take n ends) slots ≡ rows_in fixed starts ends slots
  rows_cut slots n below =
      maps_meet _ _ slots slots refl (λ i h. row_same _ _ _ _ _ _ (get_or slots i 0) (get_or slots i 0)
      (get_or-take n fixed (get_or slots i 0) _ (below i h)) (get_or-take n starts (get_or slots i 0) 0 (below i h))
      (get_or-take n ends (get_or slots i 0) 0 (below i h)))

  pub rows_without : (i : ℕ) → rows_in fixed starts ends (without_at i (line live)) ≡ without_at i (rows_in fixed starts ends (line live))
  rows_without i = rw (map-append, take-map, drop-map) refl

-- no slot more is there when one is cleared
pub cleared_short : (live : List Bool) (slot : ℕ) → length (cleared live slot) ≤ length live
cleared_short live slot = elim (cases_eq (slot + 1) (length live)) [
  | inl last ↦ (let cut = ap length (cond-true (eqb (slot + 1) (length live)) (take slot live) (set live slot false) (eq-eqb _ _ last)) in
      let short = length-take-le slot live (omega arith) in omega arith)
  | inr inside ↦ (let same = ap length (cond-false (eqb (slot + 1) (length live)) (take slot live) (set live slot false) (ne_eqb _ _ inside)) in
      let long = length-set live slot false in omega arith)
]

pub without_short : {X : Type 0} (i : ℕ) (xs : List X) → i < length xs → length (without_at i xs) + 1 ≡ length xs
without_short i xs within =
    let both = length-append (take i xs) (drop (i + 1) xs) in
    let front = length-take-le i xs (omega arith) in
    let behind = length-drop (i + 1) xs in
    omega arith

-- ---- slots that have rows

pub among_has : (xs : List ℕ) (k i : ℕ) → i < length xs → get_or xs i 0 ≡ k → is_among xs k ≡ true
among_has [] k i within is = absurd (omega arith)
among_has (x ∷ xs) k zero within is = let this = eq-eqb x k is in rw this refl
among_has (x ∷ xs) k (suc i) within is =
    let rest = among_has xs k i (omega arith) is in
    elim (cases_Bool (eqb x k)) [
      | inl here ↦ rw here refl
      | inr other ↦ rw (other, rest) refl
    ]

pub has_among : (xs : List ℕ) (k : ℕ) → is_among xs k ≡ true → Contains xs k
has_among xs k among = Contains-from_any {eq = λ x y. eqb y x} (λ x y e. sym (eqb-true y x e)) k xs among

pub among_live : (live : List Bool) (slot : ℕ) → is_among (line live) slot ≡ true → is_live live slot ≡ true
among_live live slot among = line_of live slot (has_among (line live) slot among)

pub live_among : (live : List Bool) (slot : ℕ) → is_live live slot ≡ is_among (line live) slot
live_among live slot = elim (cases_Bool (is_live live slot)) [
  | inl is ↦ is ∙ sym (among_has (line live) slot (rank live slot) (rank_within_line live slot is) (slot_at_rank live slot is))
  | inr dead ↦ elim (cases_Bool (is_among (line live) slot)) [
    | inl among ↦ absurd (false≢true (sym dead ∙ among_live live slot among))
    | inr other ↦ dead ∙ sym other
  ]
]

-- ---- lists that are packed

pub record IsPacking {X : Type 0} (slots : List ℕ) (place : ℕ) (old new : List X) : Type 0 where
  pub long : length new ≡ length old
  pub front : (i : ℕ) (x : X) → i < place → get_or new i x ≡ get_or old (get_or slots i 0) x
  pub behind : (k : ℕ) (x : X) → place ≤ k → get_or new k x ≡ get_or old k x

pub packing_none : {X : Type 0} (slots : List ℕ) (old : List X) → IsPacking slots 0 old old
packing_none slots old = record { long = refl; front = λ i x h. absurd (omega arith); behind = λ k x h. refl }

pub packing_more : {X : Type 0} {slots : List ℕ} {place : ℕ} {old new : List X} → IsPacking slots place old new → (slot : ℕ) (y : X)
    → slot ≡ get_or slots place 0 → place ≤ slot → slot < length old → y ≡ get_or new slot y → IsPacking slots (place + 1) old (set new place y)
packing_more {slots = slots} {place = place} {old = old} {new = new} so_far slot y here order within is =
    let same = so_far.long in
    record {
      long = length-set new place y ∙ so_far.long;
      front = λ i x h. elim (cases_eq i place) [
        | inl at ↦ ap (λ n. get_or (set new place y) n x) at ∙ get_or-set_same new place y x (omega arith) ∙ is
            ∙ get_or_default new slot y x (omega arith) ∙ so_far.behind slot x order ∙ ap (λ n. get_or old n x) (here ∙ ap (λ n. get_or slots n 0) (sym at))
        | inr other ↦ get_or-set_other new place i y x other ∙ so_far.front i x (omega arith)
      ];
      behind = λ k x h. get_or-set_other new place k y x (let other : k ≢ place = omega arith in other) ∙ so_far.behind k x (omega arith);
    }

pub packed : {X : Type 0} {slots : List ℕ} {place : ℕ} {old new : List X} → IsPacking slots place old new → place ≡ length slots
    → place ≤ length old → IsPacked slots old (take place new)
packed {place = place} {new = new} so_far all within =
    let same = so_far.long in
    record {
      long = length-take-le place new (omega arith) ∙ all;
      each = λ i x h. get_or-take place new i x (omega arith) ∙ so_far.front i x (omega arith);
    }

rank_before : (live : List Bool) (slot : ℕ) → rank live slot ≤ slot
rank_before live slot = let rise = ranks_rise live 0 slot (omega arith) in let none = rank-zero live in omega arith

module _ {X : Type 0} (live : List Bool) (old : List X) where
  pub packing_start : IsPacking (line live) (rank live 0) old old
  packing_start = subst (λ n. IsPacking (line live) n old old) (sym (rank-zero live)) (packing_none (line live) old)

  pub packing_dead : (new : List X) (slot : ℕ) → is_live live slot ≡ false → IsPacking (line live) (rank live slot) old new
      → IsPacking (line live) (rank live (slot + 1)) old new
  packing_dead new slot dead so_far = subst (λ n. IsPacking (line live) n old new) (sym (rank_dead live slot dead)) so_far

  pub packing_live : (new : List X) (slot place : ℕ) (y : X) → is_live live slot ≡ true → place ≡ rank live slot → slot < length old
      → y ≡ get_or new slot y → IsPacking (line live) (rank live slot) old new → IsPacking (line live) (rank live (slot + 1)) old (set new place y)
  packing_live new slot place y is at within read so_far =
      subst (λ n. IsPacking (line live) n old (set new place y)) (sym (rank_live live slot is))
      (subst (λ n. IsPacking (line live) (rank live slot + 1) old (set new n y)) (sym at)
      (packing_more so_far slot y (sym (slot_at_rank live slot is)) (rank_before live slot) within read))

-- ---- numbers that are carried

pub record IsCarrying (f : ℕ → ℕ) (slots : List ℕ) (place : ℕ) (old new : List ℕ) : Type 0 where
  pub long : length new ≡ length old
  pub front : (i : ℕ) → i < place → get_or new (get_or slots i 0) 0 ≡ f (get_or old (get_or slots i 0) 0)
  pub behind : (k : ℕ) → ((i : ℕ) → i < place → get_or slots i 0 ≢ k) → get_or new k 0 ≡ get_or old k 0

pub carrying_none : (f : ℕ → ℕ) (slots old : List ℕ) → IsCarrying f slots 0 old old
carrying_none f slots old = record { long = refl; front = λ i h. absurd (omega arith); behind = λ k h. refl }

-- the number at the next place is still the old one
pub carrying_read : {f : ℕ → ℕ} {slots : List ℕ} {place : ℕ} {old new : List ℕ} → IsCarrying f slots place old new
    → ((i : ℕ) → i < place → get_or slots i 0 ≢ get_or slots place 0)
    → get_or new (get_or slots place 0) 0 ≡ get_or old (get_or slots place 0) 0
carrying_read so_far apart = so_far.behind _ apart

pub carrying_more : {f : ℕ → ℕ} {slots : List ℕ} {place : ℕ} {old new : List ℕ} → IsCarrying f slots place old new → (slot y : ℕ)
    → slot ≡ get_or slots place 0 → slot < length old → ((i : ℕ) → i < place → get_or slots i 0 ≢ get_or slots place 0)
    → y ≡ f (get_or new slot 0) → IsCarrying f slots (place + 1) old (set new slot y)
carrying_more {f = f} {slots = slots} {place = place} {old = old} {new = new} so_far slot y here within apart is =
    let same = so_far.long in
    let fresh : y ≡ f (get_or old slot 0) = is ∙ ap f (ap (λ n. get_or new n 0) here ∙ carrying_read so_far apart ∙ ap (λ n. get_or old n 0) (sym here)) in
    record {
      long = length-set new slot y ∙ so_far.long;
      front = λ i h. elim (cases_eq i place) [
        | inl at ↦ (let there : get_or slots i 0 ≡ slot = ap (λ n. get_or slots n 0) at ∙ sym here in
            ap (λ n. get_or (set new slot y) n 0) there ∙ get_or-set_same new slot y 0 (omega arith) ∙ fresh ∙ ap (λ n. f (get_or old n 0)) (sym there))
        | inr other ↦ get_or-set_other new slot (get_or slots i 0) y 0 (λ e. apart i (omega arith) (e ∙ here)) ∙ so_far.front i (omega arith)
      ];
      behind = λ k h. get_or-set_other new slot k y 0 (λ e. h place (omega arith) (sym here ∙ sym e))
          ∙ so_far.behind k (λ i low. h i (omega arith));
    }

others_there : (live : List Bool) (slot : ℕ) → is_live live slot ≡ true → (i : ℕ) → i < rank live slot → get_or (line live) i 0 ≢ slot
others_there live slot is i before e =
    let within = rank_within_line live slot is in
    let same = places_differ live i (rank live slot) (omega arith) within (e ∙ sym (slot_at_rank live slot is)) in
    absurd (omega arith)

module _ {f : ℕ → ℕ} (live : List Bool) (old : List ℕ) where
  pub carrying_start : IsCarrying f (line live) (rank live 0) old old
  carrying_start = subst (λ n. IsCarrying f (line live) n old old) (sym (rank-zero live)) (carrying_none f (line live) old)

  pub carrying_dead : (new : List ℕ) (slot : ℕ) → is_live live slot ≡ false → IsCarrying f (line live) (rank live slot) old new
      → IsCarrying f (line live) (rank live (slot + 1)) old new
  carrying_dead new slot dead so_far = subst (λ n. IsCarrying f (line live) n old new) (sym (rank_dead live slot dead)) so_far

  -- the number of the next live slot is still the old one
  pub still_old : (new : List ℕ) (slot : ℕ) → is_live live slot ≡ true → IsCarrying f (line live) (rank live slot) old new
      → get_or new slot 0 ≡ get_or old slot 0
  still_old new slot is so_far = so_far.behind slot (others_there live slot is)

  pub carrying_live : (new : List ℕ) (slot y : ℕ) → is_live live slot ≡ true → slot < length old → y ≡ f (get_or new slot 0)
      → IsCarrying f (line live) (rank live slot) old new → IsCarrying f (line live) (rank live (slot + 1)) old (set new slot y)
  carrying_live new slot y is within read so_far =
      let here = slot_at_rank live slot is in
      subst (λ n. IsCarrying f (line live) n old (set new slot y)) (sym (rank_live live slot is))
      (carrying_more so_far slot y (sym here) within (λ i h e. others_there live slot is i h (e ∙ here)) read)

pub carried_live : (live : List Bool) {f : ℕ → ℕ} {place : ℕ} {old new : List ℕ} → IsCarrying f (line live) place old new
    → length (line live) ≤ place → (slot : ℕ) → is_live live slot ≡ true → get_or new slot 0 ≡ f (get_or old slot 0)
carried_live live {f = f} {old = old} {new = new} so_far all slot is =
    let at = slot_at_rank live slot is in
    let within = rank_within_line live slot is in
    ap (λ k. get_or new k 0) (sym at) ∙ so_far.front (rank live slot) (omega arith) ∙ ap (λ k. f (get_or old k 0)) at
