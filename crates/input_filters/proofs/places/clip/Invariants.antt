-- The spans so far are clipped.
use Rattle.std.proofs.Common.{min}
use Rattle.edit_model.specs.Filtered.{at_places}
use Rattle.edit_model.proofs.InPlace.{MapsInPlace}
use Rattle.input_filters.proofs.places.clip.Given as goal

abbrev pub invariant-loop-span : goal.invariant-loop-span
invariant-loop-span l = MapsInPlace (at_places (λ at. min at l.most)) l.initial.spans l.spans l.span-index
