-- Ends of spans as numbers round a gap: the side on which an end stands at its place is part of its number, and those
-- behind the gap have twice its length added. Text that comes at the gap, or goes before it, changes no number, and the
-- order of numbers is the same wherever the gap stands.
use Rattle.std.specs.Prelude.{ℕ, ◌≡◌, ◌<◌, ◌≤◌, ◌+◌, ◌-◌, ◌*◌, ◌/◌, Bool, true, false, ◌&&◌, if◌then◌else◌, nat_lt, nat_le, min, max}
use Rattle.edit_model.specs.declared.kinds.EndKind.{EndKind}
use Rattle.edit_model.specs.declared.kinds.EndKind.TheVariants.{Mark, Point, Paragraph}
use Rattle.edit_model.specs.Flags.{kind_of, start_kind, end_kind}

-- one more than the greatest number of a u32
abbrev pub bound : ℕ
bound = 4294967296

-- an end of this kind that stands at the gap stands behind it
abbrev pub is_point : EndKind → Bool
is_point Mark = false
is_point Point = true
is_point Paragraph = false

abbrev pub starts_behind : ℕ → Bool
starts_behind flags = is_point (start_kind (kind_of flags))

abbrev pub ends_behind : ℕ → Bool
ends_behind flags = is_point (end_kind (kind_of flags))

-- the number of a place without a gap: at one place those that would stand behind a gap come last
abbrev pub bare_of : Bool → ℕ → ℕ
bare_of points place = if points then 2 * place + 1 else 2 * place

-- the same round a gap, which stands between both sides of its place
abbrev pub opened : ℕ → ℕ → ℕ → ℕ
opened gap room bare = if nat_le bare (2 * gap) then bare else bare + 2 * room

-- and back
abbrev pub shut : ℕ → ℕ → ℕ → ℕ
shut gap room number = if nat_le number (2 * gap) then number else number - 2 * room

-- the number of an end at a place
abbrev pub number_at : ℕ → ℕ → Bool → ℕ → ℕ
number_at gap room points place = opened gap room (bare_of points place)

-- the place of a number
abbrev pub place_of : ℕ → ℕ → ℕ → ℕ
place_of gap room number = shut gap room number / 2

-- the end of this number stands between two places of the gap, so that another number is its when the one becomes the other
abbrev pub crosses : ℕ → ℕ → ℕ → ℕ → Bool
crosses gap to room number = nat_lt (2 * min gap to) (shut gap room number) && nat_le (shut gap room number) (2 * max gap to)

-- the number is one of an end on this side of its place, which fits a u32
pub record IsNumber (gap room : ℕ) (points : Bool) (number : ℕ) : Type 0 where
  pub is : number ≡ number_at gap room points (place_of gap room number)
  pub fits : place_of gap room number < bound

-- ---- where the ends go that have numbers

-- n units come at the gap
abbrev pub pushed : ℕ → ℕ → Bool → ℕ → ℕ
pushed gap n behind place =
    if nat_lt place gap then place
    else (if nat_lt gap place then place + n
    else (if behind then place + n else place))

-- the units from s up to the gap at e go
abbrev pub closed : ℕ → ℕ → ℕ → ℕ
closed s e place = if nat_le place s then place else place - (e - s)

-- no end stands inside [s, e), nor at an end of it on the side that would fall into the gap
pub record IsClear (s e : ℕ) (points : Bool) (place : ℕ) : Type 0 where
  pub outside : s < place → e ≤ place
  pub point : points ≡ true → s ≡ place → e ≤ place
  pub mark : points ≡ false → e ≡ place → place ≤ s
