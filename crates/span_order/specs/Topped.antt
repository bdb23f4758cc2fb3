-- A list of slots in blocks, with the greatest ends of each block.
use Rattle.std.specs.Prelude.{◌≡◌, ◌≢◌, ◌≤◌, ◌<◌, ◌+◌, ◌-◌, ◌*◌, ◌&&◌, ℕ, List, [], ◌++◌, length, take, drop, min, nat_lt, nat_le, slice_index, slice_index_or, if◌then◌else◌}
use Rattle.std.specs.List.{concat}
use Rattle.span_order.specs.Blocks.{block_at, number_of}
use Rattle.span_order.specs.Tops.{IsTop}
use Rattle.span_order.specs.declared.places.Place.{Place}
use Rattle.span_order.specs.declared.tops.Top.{Top}

-- the blocks, what ends last in each, and how many more slots may come before memory is asked for
pub record ToppedRow : Type 0 where
  pub blocks : List (List ℕ)
  pub tops : List Top
  pub spare : ℕ

-- what ends last in a block; one past the last has no slots
abbrev pub top_at : List Top → ℕ → Top
top_at tops block = slice_index_or tops block (record { fours = []; crest = 0 })

-- each block has its greatest ends
pub record IsTopped (ends : List ℕ) (blocks : List (List ℕ)) (tops : List Top) : Type 0 where
  pub long : length tops ≡ length blocks
  pub each : (block : ℕ) → block < length blocks → IsTop ends (block_at blocks block) (top_at tops block)

-- so has each but those from one up to another
pub record IsToppedBut (ends : List ℕ) (blocks : List (List ℕ)) (tops : List Top) (from to : ℕ) : Type 0 where
  pub long : length tops ≡ length blocks
  pub before : (block : ℕ) → block < from → block < length blocks → IsTop ends (block_at blocks block) (top_at tops block)
  pub behind : (block : ℕ) → to ≤ block → block < length blocks → IsTop ends (block_at blocks block) (top_at tops block)

-- the slots in which those from one place up to another became others
abbrev pub spliced : List (List ℕ) → Place → Place → List ℕ → List ℕ
spliced blocks from to slots = take (number_of blocks from) (concat blocks) ++ (slots ++ drop (number_of blocks to) (concat blocks))

-- how many more slots there is room for in a list of so many with so many spare ones, where so many blocks may have tops
abbrev pub spare_of : ℕ → ℕ → ℕ → ℕ
spare_of count spare tops = min spare (16 * (tops - 1) - count)

-- no slot stands twice
abbrev pub AreApart : List ℕ → Type 0
AreApart slots = (i j : ℕ) → i < j → j < length slots → slice_index slots i ≢ slice_index slots j

-- a number behind the low one, and not behind the high one, goes up and down; another stays
abbrev pub carried : ℕ → ℕ → ℕ → ℕ → ℕ → ℕ
carried low high up down number = if nat_lt low number && nat_le number high then number + up - down else number

-- the ends of these slots were carried so, and rise as before
pub record AreCarried (low high up down : ℕ) (old ends slots : List ℕ) : Type 0 where
  pub each : (at : ℕ) → at < length slots
      → slice_index ends (slice_index slots at) ≡ carried low high up down (slice_index old (slice_index slots at))
  pub rise : (at other : ℕ) → at < length slots → other < length slots
      → slice_index old (slice_index slots at) ≤ slice_index old (slice_index slots other)
      → slice_index ends (slice_index slots at) ≤ slice_index ends (slice_index slots other)
