use Rattle.std.proofs.Common.{arith}
use Rattle.edit_model.proofs.InPlace.{maps_more}
use Rattle.input_filters.proofs.units.raise_all.Goals as goal

pub loop-unit-preserved : goal.loop-unit-preserved
loop-unit-preserved c = maps_more c.loop-unit.invariant _ 0 (omega arith) c.raised.ensures
