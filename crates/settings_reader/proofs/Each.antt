-- The values of an array read one after the other.
use Rattle.std.proofs.Common.{List, ◌++◌, Result, Ok}
use Rattle.trace_model.specs.declared.faults.SettingsFault.{SettingsFault}
use Rattle.trace_model.specs.Settings.{having}

-- these and the others, or the fault of the others
abbrev pub behind : {X : Type 0} → List X → Result (List X) SettingsFault → Result (List X) SettingsFault
behind xs others = having others (λ others. Ok (xs ++ others))
