-- A list of slots in blocks.
use Rattle.std.specs.Prelude.{ℕ, ◌≡◌, ◌+◌, ◌-◌, ◌*◌, ◌<◌, ◌≤◌, ◌==◌, List, [], ◌∷◌, length, take, drop, nat_lt, slice_index_or, if◌then◌else◌}
use Rattle.std.specs.List.{concat}
use Rattle.span_order.specs.declared.places.Changed.{Changed}
use Rattle.span_order.specs.declared.places.Place.{Place}

-- the blocks, and how many more slots may come before memory is asked for
pub record Row : Type 0 where
  pub blocks : List (List ℕ)
  pub spare : ℕ

-- blocks behind one of so many slots: none is empty, and neighbours hold over 32 slots together
abbrev pub PackedBehind : ℕ → List (List ℕ) → Type 0
PackedBehind before [] = Unit {0}
PackedBehind before (block ∷ blocks) = (0 < length block) × (32 < before + length block) × PackedBehind (length block) blocks

-- so are all blocks; none stands before the first, so that it may be small
abbrev pub Packed : List (List ℕ) → Type 0
Packed blocks = PackedBehind 33 blocks

-- a block; one past the last is empty
abbrev pub block_at : List (List ℕ) → ℕ → List ℕ
block_at blocks at = slice_index_or blocks at []

-- how many slots stand before a block
abbrev pub start_of : List (List ℕ) → ℕ → ℕ
start_of blocks block = length (concat (take block blocks))

-- how many slots stand before a place
abbrev pub number_of : List (List ℕ) → Place → ℕ
number_of blocks place = start_of blocks place.block + place.index

-- a place stands in a block, at its end, or behind all blocks
pub record IsPlace (blocks : List (List ℕ)) (place : Place) : Type 0 where
  pub block : place.block ≤ length blocks
  pub index : place.index ≤ length (block_at blocks place.block)

-- the blocks before and behind the changed ones stay
pub record Keeps (old new : List (List ℕ)) (changed : Changed) : Type 0 where
  pub before : take changed.first new ≡ take changed.first old
  pub behind : drop changed.end new ≡ drop changed.old_end old
  pub old_order : changed.first ≤ changed.old_end
  pub old_within : changed.old_end ≤ length old
  pub order : changed.first ≤ changed.end
  pub within : changed.end ≤ length new

-- how many slots the block before a place among blocks holds; none counts as a large one
abbrev pub size_before : List (List ℕ) → ℕ → ℕ
size_before blocks at = if at == 0 then 33 else length (block_at blocks (at - 1))

-- how many slots the block behind a place among blocks holds; none counts as a large one
abbrev pub size_behind : List (List ℕ) → ℕ → ℕ
size_behind blocks at = if nat_lt at (length blocks) then length (block_at blocks at) else 33

-- what the fields of a list in blocks keep, where its blocks have so much room
pub record IsOrder (blocks : List (List ℕ)) (capacity slots spare : ℕ) : Type 0 where
  pub packed : Packed blocks
  pub count : slots ≡ length (concat blocks)
  pub few : slots + spare < 4294967296
  pub room : slots + spare ≤ 16 * (capacity - 3)
