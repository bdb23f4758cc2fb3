-- Those who are told, of the seats so far.
use Rattle.std.proofs.Common.{◌≡◌, ◌++◌, take}
use Rattle.edit_model.specs.Rows.{spans_in}
use Rattle.edit_model.specs.Events.{callbacks}
use Rattle.watcher_rounds.specs.Seats.{slots_beside}
use Rattle.watcher_rounds.proofs.spans.tell_beside.Given as goal

abbrev pub invariant-loop-seat : goal.invariant-loop-seat
invariant-loop-seat l =
    l.told.items ≡ l.initial.told.items ++ callbacks l.event (slots_beside l.event.id l.start l.end (spans_in (take l.seat-index l.seats)))
