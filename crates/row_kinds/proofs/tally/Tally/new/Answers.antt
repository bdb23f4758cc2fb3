-- Of no rows.
use Rattle.row_kinds.proofs.KindChanges.{tally_none}
use Rattle.row_kinds.proofs.tally.Tally.new.Goals as goal

pub returns : goal.returns
returns c = record { tally = tally_none _ _ c.new.ensures.slots c.new-2.ensures.slots }
