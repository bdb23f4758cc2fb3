-- How far a count of characters looks.
use Rattle.std.specs.Prelude.{ℕ, zero, suc, ◌+◌, ◌-◌, List}
use Rattle.std.specs.Option.{option_map_or}
use Rattle.trace_model.specs.Items.{width_before, width_at}

-- how many units a count back looks at: those of the characters that it passes, and one where it meets half of a pair alone
abbrev pub looked_back : List ℕ → ℕ → ℕ → ℕ
looked_back units zero at = 0
looked_back units (suc count) at = option_map_or (λ width. width + looked_back units count (at - width)) (width_before units at) 1

-- and how many a count on
abbrev pub looked_on : List ℕ → ℕ → ℕ → ℕ
looked_on units zero at = 0
looked_on units (suc count) at = option_map_or (λ width. width + looked_on units count (at + width)) (width_at units at) 1
