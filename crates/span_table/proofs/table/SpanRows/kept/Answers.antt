-- The row in the slot at its place.
use Rattle.std.proofs.Common.{◌≡◌, ◌<◌, length, refl, ap, sym, subst, ◌∙◌, arith}
use Rattle.span_table.specs.Slots.{row_in}
use Rattle.span_table.specs.Table.{AreNumbers, Rows, seen, span_at, spans_of}
use Rattle.span_table.proofs.Changes.{numbers_in}
use Rattle.span_table.proofs.Places.{rows_long, span_there}
use Rattle.span_table.proofs.table.SpanRows.kept.Goals as goal

pub returns-clause-numbers : goal.returns-clause-numbers
returns-clause-numbers c =
    let fixed_now = c.deref.ensures.value in
    let starts_now = c.deref-2.ensures.value in
    let ends_now = c.deref-3.ensures.value in
    let cells : row_in c.deref.result.now c.deref-2.result.now c.deref-3.result.now c.slot_at.result
    ≡ row_in c.self.inside.fixed.items c.self.inside.starts.items c.self.inside.ends.items c.slot_at.result = rw (fixed_now, starts_now, ends_now) refl in
    let inside = numbers_in c.self.invariant.rows c.slot_at.result c.slot_at.ensures.live in
    subst (λ (r : Rows). AreNumbers r.gap r.room c.row_in.result) c.self.view_is
    (subst (AreNumbers c.self.inside.gap c.self.inside.room) (sym (c.row_in.ensures ∙ cells)) inside)

pub returns-clause-span : goal.returns-clause-span
returns-clause-span c =
    let fixed_now = c.deref.ensures.value in
    let starts_now = c.deref-2.ensures.value in
    let ends_now = c.deref-3.ensures.value in
    let cells : row_in c.deref.result.now c.deref-2.result.now c.deref-3.result.now c.slot_at.result
    ≡ row_in c.self.inside.fixed.items c.self.inside.starts.items c.self.inside.ends.items c.slot_at.result = rw (fixed_now, starts_now, ends_now) refl in
    let fixed = c.self.inside.fixed.items in
    let starts = c.self.inside.starts.items in
    let ends = c.self.inside.ends.items in
    let live = c.self.inside.ranks.live in
    let long = rows_long fixed starts ends live in
    let within = subst (λ (r : Rows). c.args.i < length r.kept) (sym c.self.view_is) c.requires in
    subst (λ (r : Rows). seen r.gap r.room c.row_in.result ≡ span_at (spans_of r) c.args.i) c.self.view_is
    (ap (seen c.self.inside.gap c.self.inside.room) ((c.row_in.ensures ∙ cells) ∙ ap (row_in fixed starts ends) c.slot_at.ensures.slot)
    ∙ span_there fixed starts ends live c.self.inside.gap c.self.inside.room c.args.i (omega arith))
