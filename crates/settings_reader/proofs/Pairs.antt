-- An array that is no pair.
use Rattle.std.proofs.Common.{◌≡◌, ◌<◌, List, [], ◌∷◌, length, Err, refl, arith}
use Rattle.toml.specs.View.{items_view}
use Rattle.toml.specs.declared.value.Value.{Value}
use Rattle.trace_model.specs.declared.faults.SettingsFault.TheVariants as fault
use Rattle.trace_model.specs.Settings.{range_by_items}

pub no_pair-short : (values : List Value) → length values < 2 → range_by_items (items_view values) ≡ Err fault.Value
no_pair-short [] short = refl
no_pair-short (low ∷ []) short = refl
no_pair-short (low ∷ high ∷ values) short = absurd (omega arith)

pub no_pair-long : (values : List Value) → 2 < length values → range_by_items (items_view values) ≡ Err fault.Value
no_pair-long [] long = absurd (omega arith)
no_pair-long (low ∷ []) long = absurd (omega arith)
no_pair-long (low ∷ high ∷ []) long = absurd (omega arith)
no_pair-long (low ∷ high ∷ more ∷ values) long = refl

pub ruleset pairs = (no_pair-short, no_pair-long)
