-- What is known of stores and sinks, and what a call of one leaves.
use Rattle.std.specs.Prelude.{ℕ, ◌≡◌, ◌<◌, ◌≤◌, ◌⊎◌, ◌++◌, List, [], ◌∷◌, length, take, drop, Bool, true, false, Option, Some, None, Result, Ok, Err}
use Rattle.std.specs.Option.{option_map}
use Rattle.replay_io.specs.declared.faults.ReadFault.{ReadFault}
use Rattle.replay_io.specs.declared.faults.ReadFault.TheVariants as fault
use Rattle.replay_io.specs.declared.whole_files.ReadEnd.{ReadEnd}
use Rattle.replay_io.specs.declared.whole_files.ReadEnd.TheVariants.{Whole, Over}

-- a name that a store was asked for, and whether reading began
pub record Asked : Type 0 where
  pub name : List ℕ
  pub begun : Bool

abbrev pub begun_name : List ℕ → Asked
begun_name name = record { name = name; begun = true }

abbrev pub refused_name : List ℕ → Asked
refused_name name = record { name = name; begun = false }

-- the greatest number that a count of faults can have
abbrev pub greatest_count : ℕ
greatest_count = 18446744073709551615

-- a count of faults rose, or stands at its end
abbrev pub Rose : ℕ → ℕ → Type 0
Rose old new = (old < new) ⊎ ((old ≡ greatest_count) × (new ≡ greatest_count))

-- bytes behind those that are known
abbrev pub with_more : Option (List ℕ) → List ℕ → Option (List ℕ)
with_more known more = option_map (λ bytes. bytes ++ more) known

-- a call that took so many of the bytes that are left, into a buffer that then holds these
abbrev pub HandsOut : Option (List ℕ) → Option (List ℕ) → List ℕ → ℕ → Type 0
HandsOut None after buffer count = after ≡ None
HandsOut (Some bytes) after buffer count =
    (count ≤ length bytes) × (take count buffer ≡ take count bytes) × (after ≡ Some (drop count bytes))
    × (count ≡ 0 → 0 < length buffer → bytes ≡ [])

-- more than so many of these bytes were taken
abbrev pub TookMore : ℕ → List ℕ → Option (List ℕ) → Type 0
TookMore limit bytes left = (count : ℕ) × (limit < count) × (count ≤ length bytes) × (left ≡ Some (drop count bytes))

-- what reading a whole file gained and left, where the store tells what stands under the name
abbrev pub Gains : Result ReadEnd ReadFault → Option (List ℕ) → ℕ → List ℕ → Option (List ℕ) → Type 0
Gains answer None limit gained left = Unit {0}
Gains (Ok Whole) (Some bytes) limit gained left = (gained ≡ bytes) × (left ≡ Some [])
Gains (Ok Over) (Some bytes) limit gained left = (gained ≡ take limit bytes) × TookMore limit bytes left
Gains (Err answer) (Some bytes) limit gained left = (count : ℕ) × (gained ≡ take count bytes)

-- the names asked for by a call that asks for one name once
abbrev pub AsksOnce : Result ReadEnd ReadFault → List ℕ → List Asked → List Asked → Type 0
AsksOnce (Ok end) name old new = new ≡ old ++ begun_name name ∷ []
AsksOnce (Err fault.Failed) name old new = (begun : Bool) × (new ≡ old ++ record { name = name; begun = begun } ∷ [])
AsksOnce (Err fault.NoMemory) name old new = (new ≡ old) ⊎ (new ≡ old ++ begun_name name ∷ [])
