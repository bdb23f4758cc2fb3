-- Those who are told of the rows so far, and the rows that are left.
use Rattle.std.proofs.Common.{◌≡◌, ◌++◌, map}
use Rattle.std.specs.List.{flat_map}
use Rattle.edit_model.specs.Rows.{spans_in}
use Rattle.moved_rows.specs.Moves.{shift_of, moved_of}
use Rattle.moved_rows.specs.Iterated.{shifts_left}
use Rattle.watcher_rounds.specs.Seats.{told_moved}
use Rattle.watcher_rounds.proofs.spans.tell_moved.Given as goal

abbrev pub invariant-loop-row : goal.invariant-loop-row
invariant-loop-row l = record {
  told : l.told.items ≡ l.initial.told.items ++ flat_map (told_moved l.depth l.length (spans_in l.seats)) (map shift_of l.yielded);
  left : moved_of l.fn.moved ≡ map shift_of l.yielded ++ shifts_left l.row-iterator;
}
