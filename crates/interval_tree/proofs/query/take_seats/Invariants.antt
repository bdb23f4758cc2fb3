-- The seats so far.
use Rattle.std.proofs.Common.{◌≡◌, ◌≤◌, ◌+◌, length, map, take, vec_capacity, IsOk}
use Rattle.std.specs.Result.{OnOk}
use Rattle.edit_base.specs.declared.rows.Pick.TheVariants as pick
use Rattle.interval_tree.specs.declared.walk.Asked.TheVariants.{Over}
use Rattle.span_table.specs.Table.{spans_of}
use Rattle.interval_tree.specs.Walk.{found, place_in}
use Rattle.interval_tree.proofs.query.take_seats.Given as goal

abbrev pub invariant-loop-seat : goal.invariant-loop-seat
invariant-loop-seat g l = record {
  ok : OnOk l.so_far (l.out.items ≡ found (Over pick.All) l.start l.end (spans_of l.rows) (map (place_in l.rows.slots) (take l.seat-index l.seats)));
  ticks : l.steps ≡ l.initial.steps + l.seat-index;
  room : length l.seats ≤ vec_capacity l.initial.out → IsOk l.so_far;
  capacity : vec_capacity l.initial.out ≤ vec_capacity l.out;
}
