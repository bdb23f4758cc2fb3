-- What is clipped lies in the text.
use Rattle.std.proofs.Common.{arith}
use Rattle.std.proofs.lemmas.Grind.{common_steps}
use Rattle.input_filters.proofs.Walk.{clipped_so}
use Rattle.input_filters.proofs.filtering.clipped.Goals as goal

pub returns-clause-clipped : goal.returns-clause-clipped
returns-clause-clipped c = clipped_so _ c.args.incoming.now (grind (arith, common_steps)) c.requires.brought.units
