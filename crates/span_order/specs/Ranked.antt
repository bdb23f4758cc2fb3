-- Slots in the order of their numbers.
use Rattle.std.specs.Prelude.{ℕ, ◌+◌, ◌*◌, ◌<◌, ◌≤◌, List, take, drop, slice_index}
use Rattle.std.specs.List.{All}

-- ranks rise by number, and by slot where numbers are equal
abbrev pub rank_of : ℕ → ℕ → ℕ
rank_of number slot = number * 4294967296 + slot

-- the rank of a slot, by the numbers of all slots
abbrev pub rank_in : List ℕ → ℕ → ℕ
rank_in keys slot = rank_of (slice_index keys slot) slot

-- a list is parted at a place: what stands before it ranks below, and nothing behind it does
pub record IsParted (keys slots : List ℕ) (rank at : ℕ) : Type 0 where
  pub before : All (λ slot. rank_in keys slot < rank) (take at slots)
  pub behind : All (λ slot. rank ≤ rank_in keys slot) (drop at slots)
