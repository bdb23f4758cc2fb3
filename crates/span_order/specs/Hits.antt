-- Which slots of a list a query picks.
use Rattle.std.specs.Prelude.{ℕ, ◌+◌, ◌-◌, ◌*◌, ◌/◌, ◌%◌, ◌≤◌, ◌<◌, ◌⊎◌, Bool, ◌&&◌, List, length, nat_le, slice_index}
use Rattle.std.specs.List.{All}
use Rattle.span_order.specs.declared.hits.Asked.{Asked}

-- a slot that ends no earlier than the bound, and starts no later than the stop
abbrev pub is_hit : List ℕ → List ℕ → ℕ → ℕ → ℕ → Bool
is_hit starts ends bound stop slot = nat_le bound (slice_index ends slot) && nat_le (slice_index starts slot) stop

-- the same of what is asked
abbrev pub is_asked : Asked → ℕ → Bool
is_asked asked slot = is_hit asked.starts.now asked.ends.now asked.bound asked.stop slot

-- a slot at which a search ends: it isn't before the bound, or it is behind the stop, as all that follow are
abbrev pub IsFound : Asked → ℕ → Type 0
IsFound asked slot = (asked.bound ≤ slice_index asked.ends.now slot) ⊎ (asked.stop < slice_index asked.starts.now slot)

-- the entries from one place up to another end before the bound
abbrev pub AreBefore : Asked → List ℕ → ℕ → ℕ → Type 0
AreBefore asked slots from to = (at : ℕ) → from ≤ at → at < to → slice_index asked.ends.now (slice_index slots at) < asked.bound

-- slots that have numbers
abbrev pub HaveNumbers : Asked → List ℕ → Type 0
HaveNumbers asked slots = All (λ slot. (slot < length asked.starts.now) × (slot < length asked.ends.now)) slots

-- how many entries are left of the four that a place stands in, and none where the place is its first
abbrev pub rest : ℕ → ℕ
rest index = (4 - index % 4) % 4

-- where the next four entries begin
abbrev pub next_four : ℕ → ℕ
next_four index = index / 4 * 4 + 4
