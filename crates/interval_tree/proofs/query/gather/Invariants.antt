-- What is found, and what is left.
use Rattle.std.proofs.Common.{◌≡◌, ◌≤◌, ◌+◌, ◌*◌, ◌++◌, length, map, vec_capacity}
use Rattle.std.specs.List.{concat, filter}
use Rattle.span_order.specs.Blocks.{IsPlace, number_of}
use Rattle.span_order.specs.Hits.{is_hit, rest}
use Rattle.span_table.specs.Table.{spans_of}
use Rattle.interval_tree.specs.Walk.{found, place_in}
use Rattle.interval_tree.proofs.QueryPlaces.{left_from}
use Rattle.interval_tree.proofs.query.gather.Given as goal

abbrev pub invariant-loop-slot : goal.invariant-loop-slot
invariant-loop-slot g l =
    let rows = l.tree.rows.now in
    let blocks = l.tree.by_start.now.blocks in
    let left = left_from rows.starts rows.ends l.query.bound l.query.stop blocks l.at in
    let all = filter (is_hit rows.starts rows.ends l.query.bound l.query.stop) (concat blocks) in
    record {
      place : IsPlace blocks l.at;
      ok : l.out.items ++ found l.query.asked l.query.start l.query.end (spans_of rows) (map (place_in rows.slots) left)
          ≡ l.initial.out.items ++ found l.query.asked l.query.start l.query.end (spans_of rows) (map (place_in rows.slots) all);
      ticks : l.steps + rest l.at.index + 4 * length left ≤ l.initial.steps + 4 * length all;
      looked : l.steps ≤ l.initial.steps + number_of blocks l.at;
      more : l.initial.steps ≤ l.steps;
      room : length l.out.items + length left ≤ length l.initial.out.items + length all;
      capacity : vec_capacity l.initial.out ≤ vec_capacity l.out;
    }

abbrev pub decreases-loop-slot : goal.decreases-loop-slot
decreases-loop-slot g l =
    length (left_from l.tree.rows.now.starts l.tree.rows.now.ends l.query.bound l.query.stop l.tree.by_start.now.blocks l.at)
