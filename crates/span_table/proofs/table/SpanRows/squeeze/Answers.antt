-- Each row goes to its place.
use Rattle.std.proofs.Common.{◌≡◌, ◌≤◌, ◌-◌, length, map, get_or, true, ap, subst, ◌∙◌, arith}
use Rattle.std.proofs.lemmas.List.{length-replicate}
use Rattle.std.proofs.lemmas.List.FromFn.{length-range_with_len}
use Rattle.slot_ranks.specs.Slots.{line}
use Rattle.slot_ranks.proofs.Below.{rank_bound}
use Rattle.span_table.specs.Slots.{places, rows_in}
use Rattle.span_table.specs.Table.{Rows}
use Rattle.span_table.proofs.Changes.{packed_kept, picked, rows_packed}
use Rattle.span_table.proofs.table.SpanRows.squeeze.Goals as goal

pub invariant_of-self : goal.invariant_of-self
invariant_of-self c =
    let live = c.self.inside.ranks.live in
    let memory = c.self.invariant.memory in
    let count = length (line live) in
    let bound = rank_bound live (length live) in
    let long : length c.squeeze.new.self.live ≡ count = ap length c.squeeze.ensures.live ∙ length-replicate count true in
    let same = ap length c.squeeze.ensures.line ∙ length-range_with_len 0 count in
    record {
      rows = packed_kept _ _ _ _ _ _ (line live) c.pack.ensures.packed c.pack-2.ensures.packed c.pack-3.ensures.packed _ _ c.squeeze.new.self.live c.squeeze.ensures.line long
          c.self.invariant.rows.numbers;
      memory = record {
        placed = omega (arith, memory.placed);
        within = omega (arith, memory.within);
        ranked = omega (arith, memory.ranked);
        fixed_room = omega (arith, memory.fixed_room, c.pack.ensures.capacity);
        starts_room = omega (arith, memory.starts_room, c.pack-2.ensures.capacity);
        ends_room = omega (arith, memory.ends_room, c.pack-3.ensures.capacity);
      };
      few = c.self.invariant.few;
      gap_fits = c.self.invariant.gap_fits;
      room_fits = c.self.invariant.room_fits;
    }

pub returns-clause-kept : goal.returns-clause-kept
returns-clause-kept c =
    ap (rows_in c.pack.new.items.items c.pack-2.new.items.items c.pack-3.new.items.items) c.squeeze.ensures.line
    ∙ rows_packed _ _ _ _ _ _ (line c.self.inside.ranks.live) c.pack.ensures.packed c.pack-2.ensures.packed c.pack-3.ensures.packed
    ∙ ap (λ (r : Rows). r.kept) c.self.view_is

pub returns-clause-spare : goal.returns-clause-spare
returns-clause-spare c =
    let same = ap length c.squeeze.ensures.line ∙ length-range_with_len 0 (length (line c.self.inside.ranks.live)) in
    ap (λ n. places c.self.inside.reserved - n) same ∙ ap (λ (r : Rows). r.spare) c.self.view_is

pub returns-clause-starts : goal.returns-clause-starts
returns-clause-starts c =
    picked (line c.self.inside.ranks.live) c.self.inside.starts.items c.pack-2.new.items.items c.pack-2.ensures.packed
    ∙ ap (λ (r : Rows). map (λ slot. get_or r.starts slot 0) r.slots) c.self.view_is

pub returns-clause-ends : goal.returns-clause-ends
returns-clause-ends c =
    picked (line c.self.inside.ranks.live) c.self.inside.ends.items c.pack-3.new.items.items c.pack-3.ensures.packed
    ∙ ap (λ (r : Rows). map (λ slot. get_or r.ends slot 0) r.slots) c.self.view_is

pub returns-clause-left : goal.returns-clause-left
returns-clause-left c =
    let bound = rank_bound c.self.inside.ranks.live (length c.self.inside.ranks.live) in
    let long = c.self.invariant.rows.starts_long in
    let count = c.pack-2.ensures.packed.long in
    subst (λ (r : Rows). r.left ≤ c.self.inside.reserved - length c.pack-2.new.items.items) c.self.view_is (omega arith)

pub returns-clause-free : goal.returns-clause-free
returns-clause-free c =
    let same = ap length c.squeeze.ensures.line ∙ length-range_with_len 0 (length (line c.self.inside.ranks.live)) in
    let count = c.pack-2.ensures.packed.long in
    omega arith
