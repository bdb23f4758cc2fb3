-- The slots of the seats so far.
use Rattle.std.proofs.Common.{◌≡◌, take}
use Rattle.edit_model.specs.Rows.{spans_in}
use Rattle.watcher_rounds.specs.Seats.{slots_over}
use Rattle.watcher_rounds.proofs.seats.slots_over.Given as goal

abbrev pub invariant-loop-seat : goal.invariant-loop-seat
invariant-loop-seat l = l.slots.items ≡ slots_over l.start l.end (spans_in (take l.seat-index l.seats))
