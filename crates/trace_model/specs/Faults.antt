-- Readings that stop at their first fault.
use Rattle.std.specs.Prelude.{◌≡◌, ◌⊎◌, Bool, IfOk, IfErr, Result, Ok, Err, if◌then◌else◌}

-- a reading of what was read, or the fault that stopped before it
abbrev pub and_then : {X Y F : Type 0} → (X → Result Y F) → Result X F → Result Y F
and_then next (Ok found) = next found
and_then next (Err it) = Err it

-- what is read goes on, unless it has this fault
abbrev pub unless : {X F : Type 0} → Bool → F → Result X F → Result X F
unless test it read = if test then Err it else read

-- what was asked for is this value, seen in this way, and its fault is this fault, or it is want of memory
abbrev pub GivesSeen : {X Y F : Type 0} → F → (X → Y) → Result Y F → Result X F → Type 0
GivesSeen memory seen wanted result = IfOk result (λ x. wanted ≡ Ok (seen x)) × IfErr result (λ it. (it ≡ memory) ⊎ (wanted ≡ Err it))

-- the same of a value that is seen as it is
abbrev pub Gives : {X F : Type 0} → F → Result X F → Result X F → Type 0
Gives memory wanted result = IfOk result (λ x. wanted ≡ Ok x) × IfErr result (λ it. (it ≡ memory) ⊎ (wanted ≡ Err it))
