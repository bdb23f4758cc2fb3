-- Rising lists of slots.
use Rattle.std.specs.Prelude.{◌≡◌, ℕ, ◌<◌, ◌≤◌, ◌+◌, ◌==◌, ◌++◌, ◌∷◌, List, length, take, drop, not, nat_lt}
use Rattle.std.specs.List.{All, filter}

-- slots, rising, and how many more may come before memory is asked for
pub record Rising : Type 0 where
  pub slots : List ℕ
  pub spare : ℕ

-- the list with a slot among it, which stands between the lesser and the greater ones
abbrev pub with_slot : ℕ → List ℕ → List ℕ
with_slot slot slots = filter (λ other. nat_lt other slot) slots ++ slot ∷ filter (λ other. nat_lt slot other) slots

-- the list without a slot
abbrev pub without_slot : ℕ → List ℕ → List ℕ
without_slot slot slots = filter (λ other. not (other == slot)) slots

-- a slot stands at a place, behind the lesser and before the greater ones
pub record StandsAt (slots : List ℕ) (slot place : ℕ) : Type 0 where
  pub within : place < length slots
  pub whole : slots ≡ take place slots ++ slot ∷ drop (place + 1) slots
  pub below : All (λ other. other < slot) (take place slots)
  pub above : All (λ other. slot < other) (drop (place + 1) slots)

-- a slot that isn't there belongs to a place, behind the lesser and before the greater ones
pub record BelongsAt (slots : List ℕ) (slot place : ℕ) : Type 0 where
  pub within : place ≤ length slots
  pub below : All (λ other. other < slot) (take place slots)
  pub above : All (λ other. slot < other) (drop place slots)
