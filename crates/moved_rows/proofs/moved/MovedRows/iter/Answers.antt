-- All places are left.
use Rattle.moved_rows.proofs.Shifts.{told_whole}
use Rattle.moved_rows.proofs.moved.MovedRows.iter.Goals as goal

pub returns : goal.returns
returns c = told_whole c.args.self.now
