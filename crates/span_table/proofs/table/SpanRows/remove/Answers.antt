-- The slot is cleared, and what is behind the last one is cut.
use Rattle.std.proofs.Common.{◌≡◌, ◌<◌, length, map, ap, sym, subst, ◌∙◌, arith}
use Rattle.slot_ranks.specs.Slots.{line}
use Rattle.span_table.specs.Slots.{rows_in}
use Rattle.span_table.specs.Table.{Rows, seen, spans_of, without_at}
use Rattle.span_table.proofs.Changes.{removed_kept, rows_removed}
use Rattle.span_table.proofs.Lists.{without_seen}
use Rattle.span_table.proofs.Places.{cleared_short, rows_long, without_short}
use Rattle.span_table.proofs.table.SpanRows.remove.Goals as goal

pub invariant_of-self : goal.invariant_of-self
invariant_of-self c =
    let live = c.self.inside.ranks.live in
    let left = c.clear.new.self.live in
    let memory = c.self.invariant.memory in
    let n = sym c.len-slots.ensures.len in
    let slots : line left ≡ without_at c.args.i (line live) = c.clear.ensures.line ∙ ap (λ k. without_at k (line live)) c.slot_at-slot.ensures.rank in
    let short = cleared_short live c.slot_at-slot.result in
    let size = ap length c.clear.ensures.live in
    let long = rows_long c.self.inside.fixed.items c.self.inside.starts.items c.self.inside.ends.items live in
    let within = subst (λ (r : Rows). c.args.i < length r.kept) (sym c.self.view_is) c.requires in
    let fewer = ap length slots in
    let less = without_short c.args.i (line live) (omega arith) in
    record {
      rows = rw (c.truncate.ensures.items, c.truncate-2.ensures.items, c.truncate-3.ensures.items)
          (removed_kept c.self.invariant.rows c.args.i c.len-slots.result left n (omega arith) slots);
      memory = record {
        placed = omega (arith, memory.placed);
        within = omega (arith, memory.within);
        ranked = omega (arith, memory.ranked);
        fixed_room = omega (arith, memory.fixed_room);
        starts_room = omega (arith, memory.starts_room);
        ends_room = omega (arith, memory.ends_room);
      };
      few = c.self.invariant.few;
      gap_fits = c.self.invariant.gap_fits;
      room_fits = c.self.invariant.room_fits;
    }

pub returns-clause-kept : goal.returns-clause-kept
returns-clause-kept c =
    let live = c.self.inside.ranks.live in
    let slots : line c.clear.new.self.live ≡ without_at c.args.i (line live) =
    c.clear.ensures.line ∙ ap (λ k. without_at k (line live)) c.slot_at-slot.ensures.rank in
    rw (c.truncate.ensures.items, c.truncate-2.ensures.items, c.truncate-3.ensures.items)
    (rows_removed c.self.invariant.rows c.args.i c.len-slots.result c.clear.new.self.live (sym c.len-slots.ensures.len) slots
    ∙ ap (λ (r : Rows). without_at c.args.i r.kept) c.self.view_is)

pub returns-clause-spans : goal.returns-clause-spans
returns-clause-spans c =
    let live = c.self.inside.ranks.live in
    let gap = c.self.inside.gap in
    let room = c.self.inside.room in
    let slots : line c.clear.new.self.live ≡ without_at c.args.i (line live) =
    c.clear.ensures.line ∙ ap (λ k. without_at k (line live)) c.slot_at-slot.ensures.rank in
    let rows : rows_in c.truncate.new.self.items c.truncate-2.new.self.items c.truncate-3.new.self.items (line c.clear.new.self.live)
    ≡ without_at c.args.i (rows_in c.self.inside.fixed.items c.self.inside.starts.items c.self.inside.ends.items (line live)) =
    rw (c.truncate.ensures.items, c.truncate-2.ensures.items, c.truncate-3.ensures.items)
    (rows_removed c.self.invariant.rows c.args.i c.len-slots.result c.clear.new.self.live (sym c.len-slots.ensures.len) slots) in
    ap (map (seen gap room)) rows ∙ without_seen gap room c.args.i (rows_in c.self.inside.fixed.items c.self.inside.starts.items c.self.inside.ends.items (line live))
    ∙ ap (λ (r : Rows). without_at c.args.i (spans_of r)) c.self.view_is
