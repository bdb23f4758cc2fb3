-- The rows and their slots are laid out alike.
use Rattle.std.proofs.Common.{◌≡◌, ◌<◌, ℕ, length, get_or, ap, subst, ◌∙◌, arith}
use Rattle.std.specs.List.{All}
use Rattle.std.specs.List.Sorted.{IsStrictlyIncreasing}
use Rattle.std.proofs.lemmas.List.{get_or_default}
use Rattle.slot_ranks.specs.Slots.{line}
use Rattle.slot_ranks.proofs.Laws.{line_rises}
use Rattle.span_table.specs.Table.{Rows, kept_at, no_row}
use Rattle.span_table.proofs.Places.{row_end, row_start, row_there, rows_long, slot_below}
use Rattle.span_table.proofs.table.SpanRows.count.Goals as goal

pub returns-clause-rising : goal.returns-clause-rising
returns-clause-rising c = subst (λ (r : Rows). IsStrictlyIncreasing r.slots) c.self.view_is (line_rises c.self.inside.ranks.live)

pub returns-clause-below : goal.returns-clause-below
returns-clause-below c =
    let live = c.self.inside.ranks.live in
    let long = c.self.invariant.rows.starts_long in
    subst (λ (r : Rows). All (λ slot. slot < length r.starts) r.slots) c.self.view_is (λ k d h.
    let there = get_or_default (line live) k d 0 h in
    let below = slot_below c.self.inside.fixed.items c.self.inside.starts.items c.self.inside.ends.items live k h in
    omega arith)

pub returns-clause-start_numbers : goal.returns-clause-start_numbers
returns-clause-start_numbers c =
    let fixed = c.self.inside.fixed.items in
    let starts = c.self.inside.starts.items in
    let ends = c.self.inside.ends.items in
    let live = c.self.inside.ranks.live in
    let long = rows_long fixed starts ends live in
    subst (λ (r : Rows). (i : ℕ) → i < length r.kept → (kept_at r.kept i).start ≡ get_or r.starts (get_or r.slots i 0) 0) c.self.view_is
    (λ i h. ap (λ row. row.start) (row_there fixed starts ends live i no_row (omega arith)) ∙ row_start fixed starts ends _)

pub returns-clause-end_numbers : goal.returns-clause-end_numbers
returns-clause-end_numbers c =
    let fixed = c.self.inside.fixed.items in
    let starts = c.self.inside.starts.items in
    let ends = c.self.inside.ends.items in
    let live = c.self.inside.ranks.live in
    let long = rows_long fixed starts ends live in
    subst (λ (r : Rows). (i : ℕ) → i < length r.kept → (kept_at r.kept i).end ≡ get_or r.ends (get_or r.slots i 0) 0) c.self.view_is
    (λ i h. ap (λ row. row.end) (row_there fixed starts ends live i no_row (omega arith)) ∙ row_end fixed starts ends _)
