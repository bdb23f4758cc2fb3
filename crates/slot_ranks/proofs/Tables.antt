-- The counts that stand after each change are those of the slots then.
use Rattle.std.proofs.Common.{◌≡◌, ℕ, ◌<◌, ◌≤◌, ◌+◌, ◌-◌, ◌*◌, ◌/◌, ◌%◌, inl, inr, eqb, min, Bool, true, false, not, ◌&&◌, List, [], ◌∷◌, ◌++◌, length, take, drop, replicate, get_or, refl, sym, ap, ◌∙◌, arith}
use Rattle.std.specs.List.{All}
use Rattle.std.specs.List.Sorted.{IsNonDecreasingBy}
use Rattle.std.proofs.Math.ListN.{set}
use Rattle.std.proofs.lemmas.Bool.{cases_lt, cases_eq, cases_Bool, cond-true, cond-false, eq-eqb, ne_eqb}
use Rattle.std.proofs.lemmas.List.{append-nil, drop_all, get_or-drop, get_or_append_left, get_or_default, get_or_push, get_or_read, get_or-replicate, get_or-take, length-drop, length-replicate, length-set, length-take-le, length_push, take_all}
use Rattle.std.proofs.lemmas.List.Elements.{All-head, All-tail}
use Rattle.std.proofs.lemmas.List.FromFn.{length-range_with_len}
use Rattle.slot_ranks.specs.Slots.{is_among, is_live, line, rank}
use Rattle.slot_ranks.specs.Ranks.{AreRanks, IsLowered, blocks_for, next_blocks, rank_within}
use Rattle.slot_ranks.proofs.Below.{among_agrees_to, line_agrees, live_within, rank_between, rank_fallen, rank-zero, rank_bound, rank_dead, rank_live, ranks_rise}
use Rattle.slot_ranks.proofs.Counted.{block_of}
use Rattle.slot_ranks.proofs.Laws.{IsRanked, line_below_whole, set_dead, set_others}

and_true : (b : Bool) → (b && true) ≡ b
and_true b = elim b as (λ v. (v && true) ≡ v) [ true ↦ refl | false ↦ refl ]

rank_agrees : (xs ys : List Bool) (n : ℕ) → ((k : ℕ) → k < n → is_live xs k ≡ is_live ys k) → rank xs n ≡ rank ys n
rank_agrees xs ys n same = ap length (line_agrees xs ys n same)

-- a slice of a whole list that is written back
pub written_back : {X : Type 0} (old new : List X) (len : ℕ) → length new ≡ length old → len ≡ length old
    → take len (new ++ drop (length new) old) ≡ new
written_back old new len same is =
    ap (λ rest. take len (new ++ rest)) (drop_all (length new) old (omega arith))
    ∙ ap (take len) (append-nil new) ∙ take_all len new (omega arith)

-- ---- no slots

pub none_ranks : (live : List Bool) (inner before : List ℕ) → live ≡ [] → inner ≡ [] → before ≡ [] → AreRanks live inner before
none_ranks live inner before no_slots no_counts no_blocks =
    let slots = ap length no_slots in
    let counts = ap length no_counts in
    let blocks = ap length no_blocks in
    record {
      slots = omega arith;
      blocks = omega arith;
      within = λ slot h. absurd (omega arith);
      ahead = λ block h. absurd (omega arith);
    }

pub none_live : (live : List Bool) → live ≡ [] → 0 ≡ length (line live)
none_live live none = sym (rank-zero []) ∙ ap (λ (xs : List Bool). length (line xs)) (sym none)

-- ---- reading

pub rank_read : (live : List Bool) (inner before : List ℕ) → AreRanks live inner before → (slot : ℕ) → slot < length live
    → get_or before (slot / 64) 0 + get_or inner slot 0 ≡ rank live slot
rank_read live inner before ranks slot within =
    let front = ranks.ahead (slot / 64) (let blocks = ranks.blocks in omega arith) in
    let count = ranks.within slot within in
    let rise = ranks_rise live (64 * (slot / 64)) slot (omega arith) in
    omega arith

-- ---- one more slot

module _ (live : List Bool) (inner before : List ℕ) (ranks : AreRanks live inner before) where
  next_agrees : (n : ℕ) → n ≤ length live → rank (live ++ true ∷ []) n ≡ rank live n
  next_agrees n within = rank_agrees (live ++ true ∷ []) live n (λ k h. get_or_append_left live (true ∷ []) false k (omega arith))

  pub next_ahead : (count : ℕ) → count ≡ rank live (length live) → (block : ℕ) → 64 * block ≤ length live
      → get_or (next_blocks (length live) count before) block 0 ≡ rank live (64 * block)
  next_ahead count is block within =
      let blocks = ranks.blocks in
      elim (cases_eq (length live % 64) 0) [
        | inl first ↦ (let grown = cond-true (eqb (length live % 64) 0) (before ++ count ∷ []) before (eq-eqb _ _ first) in
            ap (λ xs. get_or xs block 0) grown ∙ elim (cases_lt block (length before)) [
              | inl old ↦ get_or_append_left before (count ∷ []) 0 block old ∙ ranks.ahead block old
              | inr new ↦ (let here : length before ≡ block = omega arith in
                  let all : length live ≡ 64 * block = omega arith in
                  get_or_push before count 0 block here ∙ is ∙ ap (rank live) all)
            ])
        | inr inside ↦ (let same = cond-false (eqb (length live % 64) 0) (before ++ count ∷ []) before (ne_eqb _ _ inside) in
            ap (λ xs. get_or xs block 0) same ∙ ranks.ahead block (omega arith))
      ]

  pub next_long : (count : ℕ) → length (next_blocks (length live) count before) ≡ blocks_for (length live + 1)
  next_long count =
      let blocks = ranks.blocks in
      elim (cases_eq (length live % 64) 0) [
        | inl first ↦ (let grown = cond-true (eqb (length live % 64) 0) (before ++ count ∷ []) before (eq-eqb _ _ first) in
            let long = length_push before count in
            ap length grown ∙ omega arith)
        | inr inside ↦ (let same = cond-false (eqb (length live % 64) 0) (before ++ count ∷ []) before (ne_eqb _ _ inside) in
            ap length same ∙ omega arith)
      ]

  -- the count that is read ahead of the next slot
  pub next_read : (count slots read : ℕ) (grown : List ℕ) → count ≡ rank live (length live) → slots ≡ length live
      → grown ≡ next_blocks slots count before → read ≡ get_or grown (slots / 64) read → read ≡ rank live (64 * (length live / 64))
  next_read count slots read grown is all made found =
      let now = made ∙ ap (λ n. next_blocks n count before) all in
      let long = ap length now ∙ next_long count in
      get_or_read grown (slots / 64) read (omega arith) found 0
      ∙ ap (λ xs. get_or xs (slots / 64) 0) now
      ∙ next_ahead count is (slots / 64) (omega arith)
      ∙ ap (λ n. rank live (64 * (n / 64))) all

  pub next_ranks : (count in_block : ℕ) → count ≡ rank live (length live) → in_block ≡ rank_within live (length live)
      → AreRanks (live ++ true ∷ []) (inner ++ in_block ∷ []) (next_blocks (length live) count before)
  next_ranks count in_block is counted =
      let long = length_push live true in
      let slots = ranks.slots in
      let blocks = next_long count in
      record {
        slots = length_push inner in_block ∙ ap (λ n. n + 1) slots ∙ sym long;
        blocks = blocks ∙ ap blocks_for (sym long);
        within = λ slot h.
            let same = next_agrees slot (omega arith) in
            let front = next_agrees (64 * (slot / 64)) (omega arith) in
            elim (cases_lt slot (length live)) [
              | inl old ↦ (let count = get_or_append_left inner (in_block ∷ []) 0 slot (omega arith) ∙ ranks.within slot old in omega arith)
              | inr new ↦ (let here : length inner ≡ slot = omega arith in
                  let last : length live ≡ slot = omega arith in
                  let count = get_or_push inner in_block 0 slot here ∙ counted ∙ ap (rank_within live) last in omega arith)
            ];
        ahead = λ block h. next_ahead count is block (omega arith) ∙ sym (next_agrees (64 * block) (omega arith));
      }

-- ---- the last slot goes

module _ (live : List Bool) (inner before : List ℕ) (ranks : AreRanks live inner before) (last : ℕ) (is_last : last + 1 ≡ length live) where
  cut_agrees : (n : ℕ) → n ≤ last → rank (take last live) n ≡ rank live n
  cut_agrees n within = rank_agrees (take last live) live n (λ k h. get_or-take last live k false (omega arith))

  pub cut_ranks : AreRanks (take last live) (take last inner) (take (blocks_for last) before)
  cut_ranks =
      let slots = ranks.slots in
      let blocks = ranks.blocks in
      let long = length-take-le last live (omega arith) in
      let inner_long = length-take-le last inner (omega arith) in
      let blocks_long = length-take-le (blocks_for last) before (omega arith) in
      record {
        slots = inner_long ∙ sym long;
        blocks = blocks_long ∙ ap blocks_for (sym long);
        within = λ slot h.
            let same = cut_agrees slot (omega arith) in
            let front = cut_agrees (64 * (slot / 64)) (omega arith) in
            let read = get_or-take last inner slot 0 (omega arith) in
            let count = ranks.within slot (omega arith) in
            omega arith;
        ahead = λ block h.
            let same = cut_agrees (64 * block) (omega arith) in
            let read = get_or-take (blocks_for last) before block 0 (omega arith) in
            let count = ranks.ahead block (omega arith) in
            omega arith;
      }

  pub cut_count : is_live live last ≡ true → length (line (take last live)) + 1 ≡ length (line live)
  cut_count is =
      let long = length-take-le last live (omega arith) in
      let same = ap (rank (take last live)) long ∙ cut_agrees last (omega arith) in
      let more = rank_live live last is in
      let all = ap (rank live) is_last in
      omega arith

-- ---- a slot that isn't the last one is dead

module _ (live : List Bool) (inner before : List ℕ) (ranks : AreRanks live inner before) (slot : ℕ) (is : is_live live slot ≡ true) where
  dead_agrees : (n : ℕ) → n ≤ slot → rank (set live slot false) n ≡ rank live n
  dead_agrees n within = rank_agrees (set live slot false) live n (λ k h. sym (set_others live slot k (omega arith)))

  pub dead_falls : (n : ℕ) → slot < n → rank (set live slot false) n + 1 ≡ rank live n
  dead_falls n behind =
      rank_fallen live (set live slot false) slot n behind is (set_dead live slot (live_within live slot is)) (set_others live slot)

  pub dead_count : length (line (set live slot false)) + 1 ≡ length (line live)
  dead_count =
      let long = ap (rank (set live slot false)) (length-set live slot false) in
      let fall = dead_falls (length live) (live_within live slot is) in
      omega arith

  pub some_in_block : (at : ℕ) → slot < at → at < length live → at < 64 * (slot / 64) + 64 → 0 < get_or inner at 0
  some_in_block at behind within same =
      let block : at / 64 ≡ slot / 64 = omega arith in
      let count = ranks.within at within ∙ ap (λ b. rank live at - rank live (64 * b)) block in
      let more = rank_live live slot is in
      let rise = ranks_rise live (slot + 1) at (omega arith) in
      let front = ranks_rise live (64 * (slot / 64)) slot (omega arith) in
      omega arith

  pub some_ahead : (block : ℕ) → slot / 64 + 1 ≤ block → block < length before → 0 < get_or before block 0
  some_ahead block behind within =
      let count = ranks.ahead block within in
      let more = rank_live live slot is in
      let rise = ranks_rise live (slot + 1) (64 * block) (omega arith) in
      omega arith

  pub dead_ranks : (inner_new before_new : List ℕ) (end : ℕ) → end ≡ min (length live) (64 * (slot / 64) + 64)
      → length inner_new ≡ length inner → length before_new ≡ length before
      → IsLowered inner inner_new (slot + 1) end → IsLowered before before_new (slot / 64 + 1) (length before)
      → AreRanks (set live slot false) inner_new before_new
  dead_ranks inner_new before_new end end_is inner_long before_long in_block ahead =
      let long = length-set live slot false in
      let slots = ranks.slots in
      let blocks = ranks.blocks in
      let end_low : end ≤ 64 * (slot / 64) + 64 = grind arith in
      let end_all : (k : ℕ) → k < length live → end ≤ k → 64 * (slot / 64) + 64 ≤ k = λ k h past. grind arith in
      record {
        slots = inner_long ∙ slots ∙ sym long;
        blocks = before_long ∙ blocks ∙ ap blocks_for (sym long);
        within = λ k h.
            let inside : k < length live = omega arith in
            let count = ranks.within k inside in
            elim (cases_lt slot k) [
              | inl behind ↦ (let fall = dead_falls k behind in elim (cases_lt k end) [
                | inl near ↦ (let read = in_block.there k (omega arith) near in
                    let same = dead_agrees (64 * (k / 64)) (omega arith) in
                    omega arith)
                | inr far ↦ (let read = in_block.behind k far in
                    let past = end_all k inside far in
                    let both = dead_falls (64 * (k / 64)) (omega arith) in
                    omega arith)
              ])
              | inr front ↦ (let read = in_block.front k (omega arith) in
                  let same = dead_agrees k front in
                  let first = dead_agrees (64 * (k / 64)) (omega arith) in
                  omega arith)
            ];
        ahead = λ block h.
            let inside : block < length before = omega arith in
            let count = ranks.ahead block inside in
            elim (cases_lt block (slot / 64 + 1)) [
              | inl front ↦ (let read = ahead.front block front in
                  let same = dead_agrees (64 * block) (omega arith) in
                  omega arith)
              | inr behind ↦ (let read = ahead.there block behind inside in
                  let fall = dead_falls (64 * block) (omega arith) in
                  omega arith)
            ];
      }

-- ---- many slots are dead

not_among : (slots : List ℕ) (slot : ℕ) → All (λ other. slot / 64 ≡ other / 64 → ⊥) slots → (k : ℕ) → k / 64 ≡ slot / 64
    → is_among slots k ≡ false
not_among [] slot others k block = refl
not_among (other ∷ slots) slot others k block =
    let P : ℕ → Type 0 = λ o. slot / 64 ≡ o / 64 → ⊥ in
    let first = All-head P other slots others in
    let rest = not_among slots slot (All-tail P other slots others) k block in
    let differ : eqb other k ≡ false = ne_eqb other k (λ e. first (sym block ∙ ap (λ n. n / 64) (sym e))) in
    rw (differ, rest) refl

-- the count of a slot in a block where none of these stands
pub untouched : (xs ys : List Bool) (slots : List ℕ) → ((k : ℕ) → is_live ys k ≡ (is_live xs k && not (is_among slots k)))
    → (slot : ℕ) → All (λ other. slot / 64 ≡ other / 64 → ⊥) slots → rank_within ys slot ≡ rank_within xs slot
untouched xs ys slots marked slot others =
    let order : 64 * (slot / 64) ≤ slot = omega arith in
    rank_between ys (64 * (slot / 64)) slot order
    ∙ ap length (among_agrees_to ys xs (64 * (slot / 64)) (slot - 64 * (slot / 64)) (λ k low high.
    let here = not_among slots slot others k (omega arith) in
    marked k ∙ ap (λ b. is_live xs k && not b) here ∙ and_true (is_live xs k)))
    ∙ sym (rank_between xs (64 * (slot / 64)) slot order)

-- ---- all slots are live

pub rank_whole : (n k : ℕ) → k ≤ n → rank (replicate n true) k ≡ k
rank_whole n k within =
    ap length (line_below_whole (replicate n true) k (λ j h. get_or-replicate n j true false (omega arith))) ∙ length-range_with_len 0 k

pub whole_ranks : (n : ℕ) (inner before : List ℕ) → length inner ≡ n → length before ≡ blocks_for n
    → ((slot : ℕ) → slot < length inner → get_or inner slot 0 ≡ slot % 64)
    → ((block : ℕ) → block < length before → get_or before block 0 ≡ 64 * block)
    → AreRanks (replicate n true) inner before
whole_ranks n inner before slots blocks counted ahead =
    let long = length-replicate n true in
    record {
      slots = slots ∙ sym long;
      blocks = blocks ∙ ap blocks_for (sym long);
      within = λ slot h.
          let count = counted slot (omega arith) in
          let same = rank_whole n slot (omega arith) in
          let front = rank_whole n (64 * (slot / 64)) (omega arith) in
          omega arith;
      ahead = λ block h. ahead block h ∙ sym (rank_whole n (64 * block) (omega arith));
    }

-- ---- the slot of a rank

pub blocks_ceil : (n : ℕ) → n / 64 + min 1 (n % 64) ≡ blocks_for n
blocks_ceil n = elim (cases_eq (n % 64) 0) [
  | inl none ↦ rw none (omega arith)
  | inr some ↦ (let one : min 1 (n % 64) ≡ 1 = grind arith in rw one (omega arith))
]

module _ (live : List Bool) (inner before : List ℕ) (ranks : AreRanks live inner before) where
  pub blocks_rise : IsNonDecreasingBy (λ count. count) before
  blocks_rise i j d order within =
      let low = get_or_default before i d 0 (omega arith) ∙ ranks.ahead i (omega arith) in
      let high = get_or_default before j d 0 within ∙ ranks.ahead j within in
      let rise = ranks_rise live (64 * i) (64 * j) (omega arith) in
      omega arith

  pub block_first : (place : ℕ) → place < length (line live) → 0 < length before
  block_first place within =
      let bound = rank_bound live (length live) in
      let blocks = ranks.blocks in
      omega arith

  pub block_least : (place : ℕ) → place < length (line live) → get_or before 0 0 ≤ place
  block_least place within =
      let first = ranks.ahead 0 (block_first place within) in
      let none = rank-zero live in
      omega arith

module _ (live : List Bool) (inner before : List ℕ) (ranks : AreRanks live inner before)
    (block to : ℕ) (to_is : to ≡ min (length live) (64 * block + 64)) (inside : block < length before) where
  starts : 64 * block < length live
  starts = let blocks = ranks.blocks in omega arith

  ends : to ≤ length live
  ends = grind arith

  near : to ≤ 64 * block + 64
  near = grind arith

  pub behind_start : 64 * block < to
  behind_start = let low = starts in grind arith

  pub part_at : (k d : ℕ) → k < to - 64 * block
      → get_or (take (to - 64 * block) (drop (64 * block) inner)) k d ≡ rank live (64 * block + k) - rank live (64 * block)
  part_at k d within =
      let slots = ranks.slots in
      let all = ends in
      let close = near in
      get_or-take (to - 64 * block) (drop (64 * block) inner) k d within ∙ get_or-drop (64 * block) inner k d
      ∙ get_or_default inner (64 * block + k) d 0 (omega arith) ∙ ranks.within (64 * block + k) (omega arith)
      ∙ ap (λ b. rank live (64 * block + k) - rank live (64 * b)) (block_of (64 * block + k) block (omega arith) (omega arith))

  pub part_long : length (take (to - 64 * block) (drop (64 * block) inner)) ≡ to - 64 * block
  part_long =
      let slots = ranks.slots in
      let all = ends in
      length-take-le (to - 64 * block) (drop (64 * block) inner) (simp length-drop (omega arith))

  pub part_rises : IsNonDecreasingBy (λ count. count) (take (to - 64 * block) (drop (64 * block) inner))
  part_rises i j d order within =
      let long = part_long in
      let low = part_at i d (omega arith) in
      let high = part_at j d (omega arith) in
      let rise = ranks_rise live (64 * block + i) (64 * block + j) (omega arith) in
      omega arith

  pub part_least : (left : ℕ) → get_or (take (to - 64 * block) (drop (64 * block) inner)) 0 0 ≤ left
  part_least left =
      let some = behind_start in
      let first = part_at 0 0 (omega arith) in
      let same : 64 * block + 0 ≡ 64 * block = omega arith in
      let equal = ap (rank live) same in
      omega arith

  pub found : (place at : ℕ) → place < length (line live) → get_or before block 0 ≤ place
      → ((b : ℕ) → block < b → b < length before → place < get_or before b 0)
      → at < length (take (to - 64 * block) (drop (64 * block) inner))
      → get_or (take (to - 64 * block) (drop (64 * block) inner)) at 0 ≤ place - get_or before block 0
      → ((k : ℕ) → at < k → k < length (take (to - 64 * block) (drop (64 * block) inner))
      → place - get_or before block 0 < get_or (take (to - 64 * block) (drop (64 * block) inner)) k 0)
      → IsRanked live place (64 * block + at)
  found place at within reached next_block short here next =
      let long = part_long in
      let front = ranks.ahead block inside in
      let count = part_at at 0 (omega arith) in
      let rise = ranks_rise live (64 * block) (64 * block + at) (omega arith) in
      let low : rank live (64 * block + at) ≤ place = omega arith in
      let high : place < rank live (64 * block + at + 1) = elim (cases_lt (at + 1) (to - 64 * block)) [
        | inl more ↦ (let passed = next (at + 1) (omega arith) (omega arith) in
            let then = part_at (at + 1) 0 more in
            let same : 64 * block + (at + 1) ≡ 64 * block + at + 1 = omega arith in
            let equal = ap (rank live) same in
            omega arith)
        | inr last ↦ (let stop : 64 * block + at + 1 ≡ to = omega arith in
            let equal = ap (rank live) stop in
            elim (cases_lt (block + 1) (length before)) [
              | inl more ↦ (let passed = next_block (block + 1) (omega arith) more in
                  let blocks = ranks.blocks in
                  let then = ranks.ahead (block + 1) more in
                  let whole : to ≡ 64 * (block + 1) = grind arith in
                  let same = ap (rank live) whole in
                  omega arith)
              | inr none ↦ (let blocks = ranks.blocks in
                  let all : to ≡ length live = grind arith in
                  let same = ap (rank live) all in
                  omega arith)
            ])
      ] in
      elim (cases_Bool (is_live live (64 * block + at))) [
        | inl is ↦ (let more = rank_live live (64 * block + at) is in record { is = is; at = omega arith })
        | inr is ↦ (let more = rank_dead live (64 * block + at) is in absurd (omega arith))
      ]
