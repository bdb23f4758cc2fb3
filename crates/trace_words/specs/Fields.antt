-- What is found of a field.
use Rattle.std.specs.Prelude.{◌≡◌, ◌⊎◌, IfOk, IfErr, Option, Some, None, Result}
use Rattle.trace_model.specs.declared.faults.TraceFault.{TraceFault}
use Rattle.trace_model.specs.declared.faults.TraceFault.TheVariants as fault

-- a number field's value is what was looked for, seen in this way, or there is none
abbrev pub FindsNumber : {X Y : Type 0} → (X → Y) → Option Y → Result X TraceFault → Type 0
FindsNumber seen found result = IfOk result (λ x. found ≡ Some (seen x)) × IfErr result (λ it. (it ≡ fault.Number) × (found ≡ None))

-- another field's value is what was looked for, or there is none, or memory is wanting
abbrev pub FindsText : {X : Type 0} → Option X → Result X TraceFault → Type 0
FindsText found result =
    IfOk result (λ x. found ≡ Some x) × IfErr result (λ it. (it ≡ fault.NoMemory) ⊎ ((it ≡ fault.Text) × (found ≡ None)))
