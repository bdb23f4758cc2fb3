-- The kinds of watchers, by the rows of their table.
use Rattle.std.specs.Prelude.{ℕ, ◌≡◌}
use Rattle.edit_model.specs.Minds.{Mind, Rules, rules_of}

-- a mind is of the kind with this number, whose row of the table of kinds has these rules
pub record IsOfKind (kind : ℕ) (rules : Rules) (mind : Mind) : Type 0 where
  pub number : mind.kind ≡ kind
  pub row : rules_of kind ≡ rules
