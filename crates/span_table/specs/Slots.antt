-- Rows that are kept by slots.
use Rattle.std.specs.Prelude.{ℕ, ◌≡◌, ◌≢◌, not, if◌then◌else◌, ◌<◌, ◌≤◌, ◌+◌, ◌-◌, ◌*◌, ◌/◌, Bool, List, length, map, slice_index, slice_index_or}
use Rattle.std.specs.List.{All, filter, range_with_len}
use Rattle.edit_base.specs.declared.kinds.What.TheVariants.{Tag}
use Rattle.slot_ranks.specs.Slots.{is_among, line}
use Rattle.span_table.specs.declared.kept.KeptRow.{KeptRow}
use Rattle.span_table.specs.declared.slots.Fixed.{Fixed}
use Rattle.span_table.specs.Numbers.{bound, crosses, opened, place_of, shut}
use Rattle.span_table.specs.Table.{AreNumbers}

abbrev pub no_fixed : Fixed
no_fixed = record { id = 0; flags = 0; what = Tag 0 }

abbrev pub fixed_at : List Fixed → ℕ → Fixed
fixed_at fixed slot = slice_index_or fixed slot no_fixed

-- the row in a slot
unfoldable pub row_in : List Fixed → List ℕ → List ℕ → ℕ → KeptRow
row_in fixed starts ends slot = record {
  id = (fixed_at fixed slot).id;
  flags = (fixed_at fixed slot).flags;
  start = slice_index starts slot;
  end = slice_index ends slot;
  what = (fixed_at fixed slot).what;
}

-- the rows in some slots
abbrev pub rows_in : List Fixed → List ℕ → List ℕ → List ℕ → List KeptRow
rows_in fixed starts ends slots = map (row_in fixed starts ends) slots

-- how many rows may be kept in so many slots
abbrev pub places : ℕ → ℕ
places slots = slots - slots / 5

-- a number can be read round this gap
pub record IsShut (gap room number : ℕ) : Type 0 where
  pub opens : number ≡ opened gap room (shut gap room number)
  pub behind : 2 * gap < number → 2 * room ≤ number
  pub fits : place_of gap room number < bound

-- the slots whose ends stand between two places of the gap
abbrev pub crossing : ℕ → ℕ → ℕ → List ℕ → List ℕ → List ℕ
crossing gap to room numbers slots = filter (λ slot. crosses gap to room (slice_index numbers slot)) slots

-- no two places of a list have one element
abbrev pub HasOnce : List ℕ → Type 0
HasOnce xs = (i j : ℕ) → i < j → j < length xs → slice_index xs i ≢ slice_index xs j

-- a list of numbers where those of some slots became others
abbrev pub IsWritten : (ℕ → ℕ) → List ℕ → List ℕ → List ℕ → Type 0
IsWritten f slots old new = (slot : ℕ) → slice_index new slot
    ≡ if is_among slots slot then f (slice_index old slot) else slice_index old slot

-- the places of a list of slots at which none of these stands
abbrev pub places_without : List ℕ → List ℕ → List ℕ
places_without gone slots = filter (λ i. not (is_among gone (slice_index slots i))) (range_with_len 0 (length slots))

-- the elements of a list at these places, in their order
pub record IsPacked {X : Type 0} (slots : List ℕ) (old new : List X) : Type 0 where
  pub long : length new ≡ length slots
  pub each : (i : ℕ) (x : X) → i < length slots → slice_index_or new i x ≡ slice_index_or old (slice_index slots i) x

-- each live slot has a row of this gap
pub record AreKept (gap room : ℕ) (fixed : List Fixed) (starts ends : List ℕ) (live : List Bool) : Type 0 where
  pub numbers : All (AreNumbers gap room) (rows_in fixed starts ends (line live))
  pub fixed_long : length fixed ≡ length live
  pub starts_long : length starts ≡ length live
  pub ends_long : length ends ≡ length live

-- so many slots may be there before memory is asked for: of these are now so many, with so many rows, and this is the memory
pub record HaveRoom (reserved rows slots spare fixed starts ends : ℕ) : Type 0 where
  pub placed : rows ≤ places reserved
  pub within : slots ≤ reserved
  pub ranked : reserved ≤ slots + spare
  pub fixed_room : reserved ≤ fixed
  pub starts_room : reserved ≤ starts
  pub ends_room : reserved ≤ ends
