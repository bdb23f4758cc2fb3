-- The rows stand as they stood.
use Rattle.std.proofs.Common.{rules}
use Rattle.moved_rows.proofs.Shifts.{moved_same}
use Rattle.moved_rows.proofs.moved.MovedRows.reserve.Goals as goal

pub returns-in_err-reserve-clause-moved : goal.returns-in_err-reserve-clause-moved
returns-in_err-reserve-clause-moved c = moved_same _ _ (search rules) (search rules) (search rules)

pub returns-in_err-reserve-2-clause-moved : goal.returns-in_err-reserve-2-clause-moved
returns-in_err-reserve-2-clause-moved c = moved_same _ _ (search rules) (search rules) (search rules)

pub returns-clause-moved : goal.returns-clause-moved
returns-clause-moved c = moved_same _ _ (search rules) (search rules) (search rules)
