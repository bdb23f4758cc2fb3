-- The notes so far are blank.
use Rattle.std.proofs.Common.{◌≡◌, take, vec_len, vec_capacity}
use Rattle.moved_rows.specs.Moves.{AreEarlier}
use Rattle.moved_rows.proofs.moved.clear_stamps.Given as goal

abbrev pub invariant-loop-at : goal.invariant-loop-at
invariant-loop-at l = record {
  blank : AreEarlier 1 (take l.at l.olds.items);
  long : vec_len l.olds ≡ vec_len l.initial.olds;
  capacity : vec_capacity l.olds ≡ vec_capacity l.initial.olds;
}
