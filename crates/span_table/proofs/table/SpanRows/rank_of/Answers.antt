-- A live slot stands at its rank.
use Rattle.std.proofs.Common.{◌≡◌, ◌<◌, ℕ, true, length, get_or, ap, subst, sym, ◌∙◌, arith}
use Rattle.slot_ranks.specs.Slots.{is_among, line, rank}
use Rattle.slot_ranks.proofs.Below.{live_within}
use Rattle.slot_ranks.proofs.Laws.{rank_within_line, ranked_at, slot_at_rank}
use Rattle.span_table.specs.Table.{Rows}
use Rattle.span_table.proofs.Places.{among_live, rows_long}
use Rattle.span_table.proofs.table.SpanRows.rank_of.Goals as goal

pub returns-clause-slot : goal.returns-clause-slot
returns-clause-slot c =
    let live = c.self.inside.ranks.live in
    let is = among_live live c.args.slot (subst (λ (r : Rows). is_among r.slots c.args.slot ≡ true) (sym c.self.view_is) c.requires) in
    sym (ap (λ (r : Rows). get_or r.slots c.rank.result 0) c.self.view_is) ∙ ap (λ n. get_or (line live) n 0) c.rank.ensures.rank
    ∙ slot_at_rank live c.args.slot is

pub returns-clause-within : goal.returns-clause-within
returns-clause-within c =
    let live = c.self.inside.ranks.live in
    let is = among_live live c.args.slot (subst (λ (r : Rows). is_among r.slots c.args.slot ≡ true) (sym c.self.view_is) c.requires) in
    let within = rank_within_line live c.args.slot is in
    let long = rows_long c.self.inside.fixed.items c.self.inside.starts.items c.self.inside.ends.items live in
    let rank = c.rank.ensures.rank in
    subst (λ (r : Rows). c.rank.result < length r.kept) c.self.view_is (omega arith)

pub returns-clause-only : goal.returns-clause-only
returns-clause-only c =
    let live = c.self.inside.ranks.live in
    let long = rows_long c.self.inside.fixed.items c.self.inside.starts.items c.self.inside.ends.items live in
    subst (λ (r : Rows). (i : ℕ) → i < length r.kept → get_or r.slots i 0 ≡ c.args.slot → i ≡ c.rank.result) c.self.view_is
    (λ i h is. sym (ranked_at live i (omega arith)).at ∙ ap (rank live) is ∙ sym c.rank.ensures.rank)
