-- The greatest ends of a block of slots.
use Rattle.std.specs.Prelude.{◌≡◌, ℕ, ◌*◌, ◌/◌, ◌<◌, ◌≤◌, List, [], ◌∷◌, length, map, max, slice_index}
use Rattle.span_order.specs.declared.tops.Top.{Top}

-- the greatest of these numbers, or 0 where there is none
abbrev pub greatest : List ℕ → ℕ
greatest [] = 0
greatest (x ∷ xs) = max x (greatest xs)

-- a slot is one of each four entries that follow one another from a multiple of four on
abbrev pub IsInFour : List ℕ → ℕ → ℕ → Type 0
IsInFour slots four slot = (at : ℕ) × ((at / 4 ≡ four) × ((at < length slots) × (slice_index slots at ≡ slot)))

-- of each four the slot that ends last, and the greatest end of all
pub record IsTop (ends slots : List ℕ) (top : Top) : Type 0 where
  pub there : (four : ℕ) → 4 * four < length slots → IsInFour slots four (slice_index top.fours four)
  pub last : (at : ℕ) → at < length slots → slice_index ends (slice_index slots at) ≤ slice_index ends (slice_index top.fours (at / 4))
  pub crest : top.crest ≡ greatest (map (slice_index ends) slots)
