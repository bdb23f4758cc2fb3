-- The units so far are raised.
use Rattle.edit_model.specs.Filtered.{upper}
use Rattle.edit_model.proofs.InPlace.{MapsInPlace}
use Rattle.input_filters.proofs.units.raise_all.Given as goal

abbrev pub invariant-loop-unit : goal.invariant-loop-unit
invariant-loop-unit l = MapsInPlace upper l.initial.units l.units l.unit-index
