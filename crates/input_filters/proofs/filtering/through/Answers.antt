-- What a filter leaves lies in the text.
use Rattle.std.proofs.Common.{arith}
use Rattle.std.proofs.lemmas.Grind.{common_steps}
use Rattle.input_filters.proofs.Walk.{clipped_still}
use Rattle.input_filters.proofs.filtering.through.Goals as goal

pub returns-clause-clipped : goal.returns-clause-clipped
returns-clause-clipped c = clipped_still _ c.args.brought c.args.others c.args.filter.now (grind (arith, common_steps)) c.requires.clipped
