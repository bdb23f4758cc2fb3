-- What contracts see of a text with spans.
use Rattle.std.specs.Prelude.{ℕ}
use Rattle.edit_model.specs.State.{State}
use Rattle.edit_model.specs.Changed.{Effect}

-- the state, the place where `halves` cuts the text, what the last edit changed, and how many units and spans may come
-- before memory is asked for
pub record Seen : Type 0 where
  pub state : State
  pub gap : ℕ
  pub effect : Effect
  pub spare_units : ℕ
  pub spare_spans : ℕ
