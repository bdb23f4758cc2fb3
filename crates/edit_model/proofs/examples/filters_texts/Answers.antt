-- Each computes.
use Rattle.std.proofs.Common.{refl}
use Rattle.edit_model.specs.Filtered.{filtered}
use Rattle.edit_model.proofs.examples.filters_texts.Goals as goal

pub returns : goal.returns
unfolding filtered
returns c = (refl, refl, refl)
