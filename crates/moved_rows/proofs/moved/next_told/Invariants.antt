-- Nothing is told of the places so far.
use Rattle.std.proofs.Common.{◌≡◌}
use Rattle.moved_rows.specs.Moves.{told_from}
use Rattle.moved_rows.proofs.moved.next_told.Given as goal

abbrev pub invariant-loop-i : goal.invariant-loop-i
invariant-loop-i l = told_from l.moved l.from ≡ told_from l.moved l.i
