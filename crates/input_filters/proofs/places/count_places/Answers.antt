-- The counts are those of the filter.
use Rattle.std.proofs.Common.{ap, ◌∙◌, map}
use Rattle.std.specs.Prelude.{slice_index}
use Rattle.edit_model.specs.Filtered.{at_places}
use Rattle.input_filters.specs.Kept.{is_kept}
use Rattle.input_filters.proofs.Taken.{looked_up}
use Rattle.input_filters.proofs.places.count_places.Goals as goal

pub returns-clause-ok : goal.returns-clause-ok
returns-clause-ok c =
    c.look_up.ensures ∙ ap (λ counts. map (at_places (slice_index counts)) c.args.spans.now) c.deref.ensures.value
    ∙ looked_up (is_kept c.args.filter.now) c.args.units.now c.count_kept.new.counts.items c.args.spans.now c.in_ok-count_kept.ensures c.requires.inside
