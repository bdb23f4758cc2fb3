-- Boundaries of paragraphs.
use Rattle.std.specs.Prelude.{ℕ, ◌+◌, ◌-◌, ◌&&◌, ◌||◌, ◌==◌, Bool, List, length, drop, slice_index, nat_le, position}
use Rattle.std.specs.Option.{option_map_or}
use Rattle.edit_base.specs.declared.units.TheConstants.{NEWLINE}

-- the unit that ends a paragraph
abbrev pub is_newline : ℕ → Bool
is_newline unit = unit == NEWLINE

-- 0, the length, or a place right behind a `\n`
abbrev pub is_boundary : List ℕ → ℕ → Bool
is_boundary units place = place == 0 || place == length units || (nat_le place (length units) && is_newline (slice_index units (place - 1)))

-- the least place after this one with `\n` right before it, else the length
abbrev pub next_boundary : List ℕ → ℕ → ℕ
next_boundary units place = option_map_or (λ i. place + i + 1) (position is_newline (drop place units)) (length units)
