-- Which slots of a table are live, and in which order.
use Rattle.std.specs.Prelude.{ℕ, ◌+◌, ◌==◌, ◌++◌, Bool, false, List, length, take, drop, slice_index_or, slice_set, if◌then◌else◌}
use Rattle.std.specs.List.{filter, list_any, range_with_len}

-- whether each slot is live, and how many slots may come before memory is asked for
pub record Slots : Type 0 where
  pub live : List Bool
  pub spare : ℕ

-- whether a slot is live; one past the last isn't
abbrev pub is_live : List Bool → ℕ → Bool
is_live live slot = slice_index_or live slot false

-- the live slots below a slot, rising
unfoldable pub line_below : List Bool → ℕ → List ℕ
line_below live slot = filter (is_live live) (range_with_len 0 slot)

-- the live slots, rising
abbrev pub line : List Bool → List ℕ
line live = line_below live (length live)

-- how many live slots stand before a slot
abbrev pub rank : List Bool → ℕ → ℕ
rank live slot = length (line_below live slot)

-- ---- slots that are cleared

-- a slot that is dead now; the last one goes
abbrev pub cleared : List Bool → ℕ → List Bool
cleared live slot = if slot + 1 == length live then take slot live else slice_set live slot false

-- a list without the element at a place
abbrev pub without : {X : Type 0} → ℕ → List X → List X
without at xs = take at xs ++ drop (at + 1) xs

-- whether a slot is one of these
abbrev pub is_among : List ℕ → ℕ → Bool
is_among slots slot = list_any (λ other. other == slot) slots
