-- The places so far are looked up.
use Rattle.std.specs.Prelude.{slice_index}
use Rattle.edit_model.specs.Filtered.{at_places}
use Rattle.edit_model.proofs.InPlace.{MapsInPlace}
use Rattle.input_filters.proofs.places.look_up.Given as goal

abbrev pub invariant-loop-span : goal.invariant-loop-span
invariant-loop-span l = MapsInPlace (at_places (slice_index l.counts)) l.initial.spans l.spans l.span-index
