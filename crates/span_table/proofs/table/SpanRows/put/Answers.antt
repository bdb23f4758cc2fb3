-- The row is one for this gap, in its slot.
use Rattle.std.proofs.Common.{map, ap, ◌∙◌}
use Rattle.std.proofs.Math.ListN.{set}
use Rattle.std.proofs.lemmas.List.{map-set}
use Rattle.edit_model.specs.Rows.{span_of}
use Rattle.slot_ranks.specs.Slots.{line}
use Rattle.span_table.specs.Slots.{rows_in}
use Rattle.span_table.specs.Table.{Rows, kept_span, seen, spans_of}
use Rattle.span_table.proofs.Changes.{set_kept}
use Rattle.span_table.proofs.Places.{rows_set}
use Rattle.span_table.proofs.table.SpanRows.put.Goals as goal

pub invariant_of-self : goal.invariant_of-self
invariant_of-self c =
    let row = c.new-kept.result in
    record {
      rows = set_kept c.self.invariant.rows c.slot_at-at.result (record { id = row.id; flags = row.flags; what = row.what }) row.start row.end
          c.slot_at-at.ensures.live c.new-kept.ensures.numbers;
      memory = c.self.invariant.memory;
      few = c.self.invariant.few;
      gap_fits = c.self.invariant.gap_fits;
      room_fits = c.self.invariant.room_fits;
    }

pub returns-clause-kept : goal.returns-clause-kept
returns-clause-kept c =
    let row = c.new-kept.result in
    let fixed = c.self.inside.fixed.items in
    let starts = c.self.inside.starts.items in
    let ends = c.self.inside.ends.items in
    let live = c.self.inside.ranks.live in
    let kept = c.self.invariant.rows in
    let rows = rows_in fixed starts ends (line live) in
    rows_set fixed starts ends live c.slot_at-at.result (record { id = row.id; flags = row.flags; what = row.what }) row.start row.end
    c.slot_at-at.ensures.live kept.fixed_long kept.starts_long kept.ends_long
    ∙ ap (λ n. set rows n row) c.slot_at-at.ensures.rank
    ∙ ap (set rows c.args.i) c.new-kept.ensures.row
    ∙ ap (λ (r : Rows). set r.kept c.args.i (kept_span r.gap r.room (span_of c.args.row.now))) c.self.view_is

pub returns-clause-spans : goal.returns-clause-spans
returns-clause-spans c =
    let row = c.new-kept.result in
    let fixed = c.self.inside.fixed.items in
    let starts = c.self.inside.starts.items in
    let ends = c.self.inside.ends.items in
    let live = c.self.inside.ranks.live in
    let kept = c.self.invariant.rows in
    let rows = rows_in fixed starts ends (line live) in
    let all = seen c.self.inside.gap c.self.inside.room in
    ap (map all) (rows_set fixed starts ends live c.slot_at-at.result (record { id = row.id; flags = row.flags; what = row.what }) row.start row.end
    c.slot_at-at.ensures.live kept.fixed_long kept.starts_long kept.ends_long
    ∙ ap (λ n. set rows n row) c.slot_at-at.ensures.rank)
    ∙ map-set all rows c.args.i row ∙ ap (set (map all rows) c.args.i) c.new-kept.ensures.span
    ∙ ap (λ (r : Rows). set (spans_of r) c.args.i (span_of c.args.row.now)) c.self.view_is
