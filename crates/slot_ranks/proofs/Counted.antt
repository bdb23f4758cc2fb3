-- Counts by blocks, one step on.
use Rattle.std.proofs.Common.{◌≡◌, ◌≢◌, ℕ, ◌<◌, ◌≤◌, ◌+◌, ◌-◌, ◌*◌, ◌/◌, inl, inr, Bool, List, ◌∷◌, length, min, drop, get_or, sym, ap, ◌∙◌, arith}
use Rattle.std.specs.Int.{from_bool}
use Rattle.std.specs.List.{All}
use Rattle.std.proofs.lemmas.List.Elements.{All-cons, All-same}
use Rattle.std.proofs.lemmas.Bool.{cases_lt, cases_eq}
use Rattle.std.proofs.Math.ListN.{set}
use Rattle.std.proofs.lemmas.List.{drop_more, get_or-set_same, get_or-set_other}
use Rattle.slot_ranks.specs.Slots.{is_live, rank}
use Rattle.slot_ranks.specs.Ranks.{AreWithin, IsLowered, blocks_for}
use Rattle.slot_ranks.proofs.Below.{rank_byte, rank_past, ranks_rise}

-- the next count falls
pub lowered_more : (old new : List ℕ) (from at : ℕ) → from ≤ at → at < length new → IsLowered old new from at
    → IsLowered old (set new at (get_or new at 0 - 1)) from (at + 1)
lowered_more old new from at order within so_far = record {
  there = λ k low high. elim (cases_eq k at) [
    | inl same ↦ rw (same, get_or-set_same new at (get_or new at 0 - 1) 0 within) (ap (λ n. n - 1) (so_far.behind at (omega arith)))
    | inr other ↦ rw (get_or-set_other new at k (get_or new at 0 - 1) 0 other) (so_far.there k low (omega arith))
  ];
  front = λ k low. let other : k ≢ at = omega arith in
      rw (get_or-set_other new at k (get_or new at 0 - 1) 0 other) (so_far.front k low);
  behind = λ k high. let other : k ≢ at = omega arith in
      rw (get_or-set_other new at k (get_or new at 0 - 1) 0 other) (so_far.behind k (omega arith));
}

-- the block of a slot
pub block_of : (slot block : ℕ) → 64 * block ≤ slot → slot < 64 * block + 64 → slot / 64 ≡ block
block_of slot block low high = omega arith

-- a block adds the count of its last slot, and one where that is live
pub block_adds : (live : List Bool) (inner : List ℕ) (block last : ℕ) → AreWithin live inner → 64 * block < length live
    → last + 1 ≡ min (64 * block + 64) (length live)
    → rank live (64 * block) + (get_or inner last 0 + from_bool (is_live live last)) ≡ rank live (64 * (block + 1))
block_adds live inner block last within some is =
    let short : last + 1 ≤ 64 * block + 64 = grind arith in
    let low : 64 * block ≤ last = grind arith in
    let inside : last < length live = grind arith in
    let at = block_of last block low (omega arith) in
    let count = within last inside ∙ ap (λ b. rank live last - rank live (64 * b)) at in
    let rise = ranks_rise live (64 * block) last low in
    let more = rank_byte live last in
    let sum : rank live (64 * block) + (get_or inner last 0 + from_bool (is_live live last)) ≡ rank live (last + 1) = omega arith in
    sum ∙ elim (cases_lt (length live) (64 * block + 64)) [
      | inl shorter ↦ (let all : last + 1 ≡ length live = grind arith in
          ap (rank live) all ∙ sym (rank_past live (64 * (block + 1)) (omega arith)))
      | inr longer ↦ (let all : last + 1 ≡ 64 * (block + 1) = grind arith in ap (rank live) all)
    ]

-- blocks that cover all slots
pub blocks_cover : (live : List Bool) (blocks : ℕ) → blocks ≡ blocks_for (length live)
    → rank live (64 * blocks) ≡ rank live (length live)
blocks_cover live blocks is = rank_past live (64 * blocks) (omega arith)

-- a slot in another block than the slot at a place, and in none of those behind it
pub none_left : (slot : ℕ) (slots : List ℕ) (at : ℕ) → at < length slots → (slot / 64 ≡ get_or slots at 0 / 64 → ⊥)
    → All (λ other. slot / 64 ≡ other / 64 → ⊥) (drop (at + 1) slots) → All (λ other. slot / 64 ≡ other / 64 → ⊥) (drop at slots)
none_left slot slots at within here rest =
    let P : ℕ → Type 0 = λ other. slot / 64 ≡ other / 64 → ⊥ in
    All-same P (drop at slots) (get_or slots at 0 ∷ drop (at + 1) slots) (drop_more slots at 0 within)
    (All-cons P (get_or slots at 0) (drop (at + 1) slots) here rest)
