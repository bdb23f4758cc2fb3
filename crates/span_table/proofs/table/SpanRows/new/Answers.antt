-- There are none.
use Rattle.std.proofs.Common.{length, map, ap, arith}
use Rattle.span_table.specs.Slots.{row_in}
use Rattle.span_table.proofs.Changes.{none_kept, none_live}
use Rattle.span_table.proofs.table.SpanRows.new.Goals as goal

pub invariant_of-result : goal.invariant_of-result
invariant_of-result c =
    let none = ap length (none_live c.new-4.result.live c.new-4.ensures.live) in
    let slots = ap length c.new-4.ensures.live in
    record {
      rows = none_kept 0 0 _ _ _ _ c.new.ensures.items c.new-2.ensures.items c.new-3.ensures.items c.new-4.ensures.live;
      memory = record { placed = omega arith; within = omega arith; ranked = omega arith; fixed_room = omega arith; starts_room = omega arith; ends_room = omega arith };
      few = omega arith;
      gap_fits = omega arith;
      room_fits = omega arith;
    }

pub returns-clause-ok : goal.returns-clause-ok
returns-clause-ok c = ap (map (row_in c.new.result.items c.new-2.result.items c.new-3.result.items)) (none_live c.new-4.result.live c.new-4.ensures.live)

pub returns-clause-slots : goal.returns-clause-slots
returns-clause-slots c = none_live c.new-4.result.live c.new-4.ensures.live
