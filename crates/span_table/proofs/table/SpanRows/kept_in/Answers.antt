-- The slot has a row.
use Rattle.std.proofs.Common.{◌≡◌, true, get_or, refl, ap, sym, subst, ◌∙◌, arith}
use Rattle.slot_ranks.specs.Slots.{is_among}
use Rattle.slot_ranks.proofs.Below.{live_within}
use Rattle.span_table.specs.Slots.{row_in}
use Rattle.span_table.specs.Table.{AreNumbers, Rows}
use Rattle.span_table.proofs.Changes.{numbers_in}
use Rattle.span_table.proofs.Places.{among_live, row_end, row_start}
use Rattle.span_table.proofs.table.SpanRows.kept_in.Goals as goal

pub row_in-requires-clause-fixed : goal.row_in-requires-clause-fixed
row_in-requires-clause-fixed c =
    let live = c.self.inside.ranks.live in
    let is = among_live live c.args.slot (subst (λ (r : Rows). is_among r.slots c.args.slot ≡ true) (sym c.self.view_is) c.requires) in
    let below = live_within live c.args.slot is in
    let long = c.self.invariant.rows.fixed_long in
    omega arith

pub row_in-requires-clause-starts : goal.row_in-requires-clause-starts
row_in-requires-clause-starts c =
    let live = c.self.inside.ranks.live in
    let is = among_live live c.args.slot (subst (λ (r : Rows). is_among r.slots c.args.slot ≡ true) (sym c.self.view_is) c.requires) in
    let below = live_within live c.args.slot is in
    let long = c.self.invariant.rows.starts_long in
    omega arith

pub row_in-requires-clause-ends : goal.row_in-requires-clause-ends
row_in-requires-clause-ends c =
    let live = c.self.inside.ranks.live in
    let is = among_live live c.args.slot (subst (λ (r : Rows). is_among r.slots c.args.slot ≡ true) (sym c.self.view_is) c.requires) in
    let below = live_within live c.args.slot is in
    let long = c.self.invariant.rows.ends_long in
    omega arith

pub returns-clause-start : goal.returns-clause-start
returns-clause-start c =
    let fixed_now = c.deref.ensures.value in
    let starts_now = c.deref-2.ensures.value in
    let ends_now = c.deref-3.ensures.value in
    let cells : row_in c.deref.result.now c.deref-2.result.now c.deref-3.result.now c.args.slot
    ≡ row_in c.self.inside.fixed.items c.self.inside.starts.items c.self.inside.ends.items c.args.slot = rw (fixed_now, starts_now, ends_now) refl in
    ap (λ row. row.start) (c.row_in.ensures ∙ cells) ∙ row_start c.self.inside.fixed.items c.self.inside.starts.items c.self.inside.ends.items c.args.slot
    ∙ ap (λ (r : Rows). get_or r.starts c.args.slot 0) c.self.view_is

pub returns-clause-end : goal.returns-clause-end
returns-clause-end c =
    let fixed_now = c.deref.ensures.value in
    let starts_now = c.deref-2.ensures.value in
    let ends_now = c.deref-3.ensures.value in
    let cells : row_in c.deref.result.now c.deref-2.result.now c.deref-3.result.now c.args.slot
    ≡ row_in c.self.inside.fixed.items c.self.inside.starts.items c.self.inside.ends.items c.args.slot = rw (fixed_now, starts_now, ends_now) refl in
    ap (λ row. row.end) (c.row_in.ensures ∙ cells) ∙ row_end c.self.inside.fixed.items c.self.inside.starts.items c.self.inside.ends.items c.args.slot
    ∙ ap (λ (r : Rows). get_or r.ends c.args.slot 0) c.self.view_is

pub returns-clause-numbers : goal.returns-clause-numbers
returns-clause-numbers c =
    let fixed_now = c.deref.ensures.value in
    let starts_now = c.deref-2.ensures.value in
    let ends_now = c.deref-3.ensures.value in
    let cells : row_in c.deref.result.now c.deref-2.result.now c.deref-3.result.now c.args.slot
    ≡ row_in c.self.inside.fixed.items c.self.inside.starts.items c.self.inside.ends.items c.args.slot = rw (fixed_now, starts_now, ends_now) refl in
    let live = c.self.inside.ranks.live in
    let is = among_live live c.args.slot (subst (λ (r : Rows). is_among r.slots c.args.slot ≡ true) (sym c.self.view_is) c.requires) in
    subst (λ (r : Rows). AreNumbers r.gap r.room c.row_in.result) c.self.view_is
    (subst (AreNumbers c.self.inside.gap c.self.inside.room) (sym (c.row_in.ensures ∙ cells)) (numbers_in c.self.invariant.rows c.args.slot is))
