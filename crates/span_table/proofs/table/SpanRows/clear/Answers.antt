-- None is left.
use Rattle.std.proofs.Common.{◌≤◌, ◌+◌, ◌-◌, length, map, ap, subst, arith}
use Rattle.slot_ranks.specs.Slots.{line}
use Rattle.span_table.specs.Slots.{places, row_in}
use Rattle.span_table.specs.Table.{Rows}
use Rattle.span_table.proofs.Changes.{none_kept, none_live}
use Rattle.span_table.proofs.Places.{rows_long}
use Rattle.span_table.proofs.table.SpanRows.clear.Goals as goal

pub invariant_of-self : goal.invariant_of-self
invariant_of-self c =
    let none = ap length (none_live c.clear_all.new.self.live c.clear_all.ensures.live) in
    let slots = ap length c.clear_all.ensures.live in
    let memory = c.self.invariant.memory in
    record {
      rows = none_kept _ _ _ _ _ _ c.clear.ensures.items c.clear-2.ensures.items c.clear-3.ensures.items c.clear_all.ensures.live;
      memory = record {
        placed = omega arith;
        within = omega arith;
        ranked = omega (arith, memory.ranked);
        fixed_room = omega (arith, memory.fixed_room);
        starts_room = omega (arith, memory.starts_room);
        ends_room = omega (arith, memory.ends_room);
      };
      few = c.self.invariant.few;
      gap_fits = c.self.invariant.gap_fits;
      room_fits = c.self.invariant.room_fits;
    }

pub returns-clause-kept : goal.returns-clause-kept
returns-clause-kept c =
    ap (map (row_in c.clear.new.self.items c.clear-2.new.self.items c.clear-3.new.self.items)) (none_live c.clear_all.new.self.live c.clear_all.ensures.live)

pub returns-clause-spare : goal.returns-clause-spare
returns-clause-spare c =
    let none = ap length (none_live c.clear_all.new.self.live c.clear_all.ensures.live) in
    let long = rows_long c.self.inside.fixed.items c.self.inside.starts.items c.self.inside.ends.items c.self.inside.ranks.live in
    let placed = c.self.invariant.memory.placed in
    subst (λ (r : Rows). length r.kept + r.spare ≤ places c.self.inside.reserved - length (line c.clear_all.new.self.live)) c.self.view_is (omega arith)

pub returns-clause-slots : goal.returns-clause-slots
returns-clause-slots c = none_live c.clear_all.new.self.live c.clear_all.ensures.live
