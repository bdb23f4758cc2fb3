-- Each end is the lesser of itself and the most.
use Rattle.std.proofs.Common.{arith}
use Rattle.edit_base.specs.declared.kinds.What.TheVariants.{Tag}
use Rattle.edit_base.specs.declared.rows.NewSpan.{NewSpan}
use Rattle.edit_model.proofs.InPlace.{maps_more}
use Rattle.input_filters.proofs.places.clip.Goals as goal

-- what stands past the spans
abbrev blank : NewSpan
blank = record { id = 0; start = 0; end = 0; flags = 0; what = Tag 0 }

pub loop-span-preserved : goal.loop-span-preserved
loop-span-preserved c = maps_more c.loop-span.invariant _ blank (omega arith) (cc)
