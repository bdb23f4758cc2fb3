-- Those who are told of the rows so far.
use Rattle.std.proofs.Common.{◌≡◌, ◌++◌, take}
use Rattle.std.specs.List.{flat_map}
use Rattle.edit_model.specs.Rows.{spans_in}
use Rattle.watcher_rounds.specs.Seats.{told_there}
use Rattle.watcher_rounds.proofs.spans.tell_there.Given as goal

abbrev pub invariant-loop-row : goal.invariant-loop-row
invariant-loop-row l =
    l.told.items ≡ l.initial.told.items ++ flat_map (told_there l.depth l.change (spans_in l.seats)) (spans_in (take l.row-index l.rows))
