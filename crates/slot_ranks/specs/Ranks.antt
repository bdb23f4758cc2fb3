-- Counts of live slots, by blocks of 64 slots.
use Rattle.std.specs.Prelude.{◌≡◌, ℕ, ◌+◌, ◌-◌, ◌*◌, ◌/◌, ◌%◌, ◌==◌, ◌<◌, ◌≤◌, ◌++◌, ◌∷◌, [], Bool, List, length, slice_index, if◌then◌else◌}
use Rattle.slot_ranks.specs.Slots.{rank}

-- how many live slots stand before a slot in its block
abbrev pub rank_within : List Bool → ℕ → ℕ
rank_within live slot = rank live slot - rank live (64 * (slot / 64))

-- how many blocks so many slots take
abbrev pub blocks_for : ℕ → ℕ
blocks_for slots = (slots + 63) / 64

-- the count of each slot, in its block
abbrev pub AreWithin : List Bool → List ℕ → Type 0
AreWithin live inner = (slot : ℕ) → slot < length live → slice_index inner slot ≡ rank_within live slot

-- the count of each block, of what stands before it
abbrev pub AreAhead : List Bool → List ℕ → Type 0
AreAhead live before = (block : ℕ) → block < length before → slice_index before block ≡ rank live (64 * block)

-- both counts
pub record AreRanks (live : List Bool) (inner before : List ℕ) : Type 0 where
  pub slots : length inner ≡ length live
  pub blocks : length before ≡ blocks_for (length live)
  pub within : AreWithin live inner
  pub ahead : AreAhead live before

-- the counts from one place up to another are one less
pub record IsLowered (old new : List ℕ) (from to : ℕ) : Type 0 where
  pub there : (at : ℕ) → from ≤ at → at < to → slice_index new at ≡ slice_index old at - 1
  pub front : (at : ℕ) → at < from → slice_index new at ≡ slice_index old at
  pub behind : (at : ℕ) → to ≤ at → slice_index new at ≡ slice_index old at

-- the counts of the blocks where one more slot comes
abbrev pub next_blocks : ℕ → ℕ → List ℕ → List ℕ
next_blocks slots count before = if slots % 64 == 0 then before ++ count ∷ [] else before
