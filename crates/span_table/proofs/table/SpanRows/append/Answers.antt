-- The row is one for this gap, in the slot behind all others.
use Rattle.std.proofs.Common.{◌≡◌, ◌<◌, ◌++◌, ◌∷◌, [], length, map, ap, sym, subst, ◌∙◌, arith}
use Rattle.std.proofs.lemmas.List.{length_push, map-append}
use Rattle.edit_model.specs.Rows.{span_of}
use Rattle.slot_ranks.specs.Slots.{line}
use Rattle.span_table.specs.Slots.{rows_in}
use Rattle.span_table.specs.Table.{Rows, kept_span, seen, spans_of}
use Rattle.span_table.proofs.Changes.{pushed_kept}
use Rattle.span_table.proofs.Places.{rows_pushed}
use Rattle.span_table.proofs.table.SpanRows.append.Goals as goal

pub invariant_of-self : goal.invariant_of-self
invariant_of-self c =
    let row = c.new-kept.result in
    let live = c.self.inside.ranks.live in
    let memory = c.self.invariant.memory in
    let longs = ap length c.push-slot.ensures.live ∙ length_push live _ in
    let rows = ap length c.push-slot.ensures.line ∙ length_push (line live) _ in
    let long = c.self.invariant.rows.starts_long in
    let left = subst (λ (r : Rows). 0 < r.left) (sym c.self.view_is) c.requires.left in
    let spare = subst (λ (r : Rows). 0 < r.spare) (sym c.self.view_is) c.requires.spare in
    record {
      rows = rw (c.push_within.ensures.items, c.push_within-2.ensures.items, c.push_within-3.ensures.items, c.push-slot.ensures.live)
          (pushed_kept c.self.invariant.rows (record { id = row.id; flags = row.flags; what = row.what }) row.start row.end c.new-kept.ensures.numbers);
      memory = record {
        placed = omega arith;
        within = omega arith;
        ranked = omega (arith, memory.ranked);
        fixed_room = omega (arith, memory.fixed_room);
        starts_room = omega (arith, memory.starts_room);
        ends_room = omega (arith, memory.ends_room);
      };
      few = c.self.invariant.few;
      gap_fits = c.self.invariant.gap_fits;
      room_fits = c.self.invariant.room_fits;
    }

pub returns-clause-kept : goal.returns-clause-kept
returns-clause-kept c =
    let row = c.new-kept.result in
    let fixed = c.self.inside.fixed.items in
    let starts = c.self.inside.starts.items in
    let ends = c.self.inside.ends.items in
    let live = c.self.inside.ranks.live in
    let kept = c.self.invariant.rows in
    rw (c.push_within.ensures.items, c.push_within-2.ensures.items, c.push_within-3.ensures.items, c.push-slot.ensures.line)
    (rows_pushed fixed starts ends live (record { id = row.id; flags = row.flags; what = row.what }) row.start row.end kept.fixed_long kept.starts_long kept.ends_long)
    ∙ ap (λ new. rows_in fixed starts ends (line live) ++ new ∷ []) c.new-kept.ensures.row
    ∙ ap (λ (r : Rows). r.kept ++ kept_span r.gap r.room (span_of c.args.row.now) ∷ []) c.self.view_is

pub returns-clause-spans : goal.returns-clause-spans
returns-clause-spans c =
    let row = c.new-kept.result in
    let fixed = c.self.inside.fixed.items in
    let starts = c.self.inside.starts.items in
    let ends = c.self.inside.ends.items in
    let live = c.self.inside.ranks.live in
    let kept = c.self.invariant.rows in
    let gap = c.self.inside.gap in
    let room = c.self.inside.room in
    let rows : rows_in c.push_within.new.list.items c.push_within-2.new.list.items c.push_within-3.new.list.items (line c.push-slot.new.self.live)
    ≡ rows_in fixed starts ends (line live) ++ row ∷ [] = rw (c.push_within.ensures.items, c.push_within-2.ensures.items, c.push_within-3.ensures.items, c.push-slot.ensures.line)
    (rows_pushed fixed starts ends live (record { id = row.id; flags = row.flags; what = row.what }) row.start row.end kept.fixed_long kept.starts_long kept.ends_long) in
    ap (map (seen gap room)) rows ∙ map-append (seen gap room) (rows_in fixed starts ends (line live)) (row ∷ [])
    ∙ ap (λ new. map (seen gap room) (rows_in fixed starts ends (line live)) ++ new ∷ []) c.new-kept.ensures.span
    ∙ ap (λ (r : Rows). spans_of r ++ span_of c.args.row.now ∷ []) c.self.view_is
