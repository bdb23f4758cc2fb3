-- A text whose units stand round a gap.
use Rattle.std.specs.Prelude.{ℕ, ◌+◌, ◌-◌, ◌/◌, ◌++◌, List, take, drop, min, max}

-- the units, how many of them stand before the gap, and how many more the gap has room for
pub record Gapped : Type 0 where
  pub units : List ℕ
  pub gap : ℕ
  pub spare : ℕ

-- the units of a buffer that stand round so many from the gap place on
abbrev pub around : List ℕ → ℕ → ℕ → List ℕ
around buffer gap spare = take gap buffer ++ drop (gap + spare) buffer

-- the greatest number of a u32
abbrev pub greatest : ℕ
greatest = 4294967295

-- by how many units a buffer of so many grows where it needs at least so many: by half its own, and never past a u32
abbrev pub growth : ℕ → ℕ → ℕ
growth size least = min (max least (size / 2)) (greatest - size)
