-- Ids that are kept in slots.
use Rattle.std.specs.Prelude.{◌≡◌, ℕ, ◌==◌, List, Option, length, slice_index, nat_eq}
use Rattle.std.specs.List.{position}
use Rattle.std.specs.Map.{lookup}
use Rattle.std.specs.Option.{option_map}

-- ids with their slots, in no order that is known, and how many more may come before memory is asked for
pub record Names : Type 0 where
  pub entries : List (ℕ × ℕ)
  pub spare : ℕ

-- the slot of an id, where the id is there
abbrev pub slot_in : Names → ℕ → Option ℕ
slot_in names id = lookup (nat_eq id) names.entries

-- the slot at the place of an id in a list, where the id is in it
abbrev pub slot_beside : List ℕ → List ℕ → ℕ → Option ℕ
slot_beside ids slots id = option_map (slice_index slots) (position (λ other. id == other) ids)

-- each id of a list is there, with the slot at its place in another, and no other id is
pub record AreNamed (ids slots : List ℕ) (names : Names) : Type 0 where
  pub long : length slots ≡ length ids
  pub count : length names.entries ≡ length ids
  pub beside : (id : ℕ) → slot_in names id ≡ slot_beside ids slots id
