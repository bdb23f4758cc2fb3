-- What a follower's lines are laid out with.
use Rattle.std.specs.Prelude.{List, []}
use Rattle.edit_model.specs.declared.faces.Face.{Face}
use Rattle.edit_model.specs.declared.faces.Metrics.{Metrics}

-- the faces and the measures that a follower was made with
pub record Ground : Type 0 where
  pub faces : List Face
  pub metrics : Metrics

-- no width, no tab stops and no distance between lines
abbrev pub no_metrics : Metrics
no_metrics = record { width = 0; tab = 0; num = 0; den = 0; add = 0 }

-- those of a follower that lays nothing out
abbrev pub no_ground : Ground
no_ground = record { faces = []; metrics = no_metrics }
