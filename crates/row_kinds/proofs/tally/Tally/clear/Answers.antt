-- Of no rows.
use Rattle.row_kinds.proofs.KindChanges.{tally_none}
use Rattle.row_kinds.proofs.tally.Tally.clear.Goals as goal

pub returns-clause-tally : goal.returns-clause-tally
returns-clause-tally c = tally_none _ _ c.clear.ensures.slots c.clear-2.ensures.slots
