-- The span that is read is still the old one, whose places have counts.
use Rattle.std.proofs.Common.{refl, arith}
use Rattle.edit_base.specs.declared.kinds.What.TheVariants.{Tag}
use Rattle.edit_base.specs.declared.rows.NewSpan.{NewSpan}
use Rattle.edit_model.proofs.InPlace.{maps_read, maps_more}
use Rattle.input_filters.proofs.places.look_up.Goals as goal

-- what stands past the spans
abbrev blank : NewSpan
blank = record { id = 0; start = 0; end = 0; flags = 0; what = Tag 0 }

pub bounds-counts-span : goal.bounds-counts-span
bounds-counts-span c = rw (maps_read c.loop-span.invariant blank) (c.requires.inside c.loop-span.span-index blank (omega (arith, c.loop-span.invariant.long))).0

pub bounds-counts-span-in-loop-span : goal.bounds-counts-span-in-loop-span
bounds-counts-span-in-loop-span c =
    rw (maps_read c.loop-span.invariant blank) (c.requires.inside c.loop-span.span-index blank (omega (arith, c.loop-span.invariant.long))).1

pub loop-span-preserved : goal.loop-span-preserved
loop-span-preserved c = maps_more c.loop-span.invariant _ blank (omega arith) refl
