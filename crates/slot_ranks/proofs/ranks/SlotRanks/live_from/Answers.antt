-- A live slot stands at its rank, and what stands at the rank of a dead one comes next.
use Rattle.std.proofs.Common.{false, length, Some, slice_get, arith, ap, sym, ◌∙◌}
use Rattle.std.proofs.lemmas.List.{get_or_read}
use Rattle.std.proofs.lemmas.Option.{slice_get_past, slice_get-get_or}
use Rattle.slot_ranks.specs.Slots.{Slots, is_live, line, rank}
use Rattle.slot_ranks.proofs.Below.{rank_past, ranks_rise}
use Rattle.slot_ranks.proofs.Laws.{rank_within_line, slot_at_rank}
use Rattle.slot_ranks.proofs.ranks.SlotRanks.live_from.Goals as goal

pub returns-then-at-len-clause-slot : goal.returns-then-at-len-clause-slot
returns-then-at-len-clause-slot c =
    let live = c.args.self.now.live in
    let long = ap (λ (s : Slots). length s.live) c.self.view_is in
    let all = rank_past live c.args.slot (omega arith) in
    sym (slice_get_past (line live) (rank live c.args.slot) (omega arith))

pub returns-then-index-clause-slot : goal.returns-then-index-clause-slot
returns-then-index-clause-slot c =
    let live = c.args.self.now.live in
    let old = c.self.inside.live.items in
    let read = get_or_read old c.args.slot c.index.result.now (omega arith) c.index.ensures false in
    let is = sym (ap (λ (s : Slots). is_live s.live c.args.slot) c.self.view_is) ∙ sym read ∙ c.if-index.true in
    sym (slice_get-get_or (line live) (rank live c.args.slot) 0 (rank_within_line live c.args.slot is) ∙ ap Some (slot_at_rank live c.args.slot is))

pub slot_at-requires : goal.slot_at-requires
slot_at-requires c =
    let live = c.args.self.now.live in
    let long = ap (λ (s : Slots). length s.live) c.self.view_is in
    let count = c.self.invariant.count ∙ ap (λ (s : Slots). length (line s.live)) c.self.view_is in
    let rise = ranks_rise live c.args.slot (length live) (omega arith) in
    omega arith

pub returns-then-place-self-clause-slot : goal.returns-then-place-self-clause-slot
returns-then-place-self-clause-slot c =
    let live = c.args.self.now.live in
    let count = c.self.invariant.count ∙ ap (λ (s : Slots). length (line s.live)) c.self.view_is in
    sym (slice_get_past (line live) (rank live c.args.slot) (omega arith))

pub returns-else-place-self-clause-slot : goal.returns-else-place-self-clause-slot
returns-else-place-self-clause-slot c =
    let live = c.args.self.now.live in
    let long = ap (λ (s : Slots). length s.live) c.self.view_is in
    let count = c.self.invariant.count ∙ ap (λ (s : Slots). length (line s.live)) c.self.view_is in
    let rise = ranks_rise live c.args.slot (length live) (omega arith) in
    let at = c.rank-place.ensures.rank in
    ap Some c.slot_at.ensures.slot ∙ sym (slice_get-get_or (line live) c.rank-place.result 0 (omega arith))
    ∙ ap (slice_get (line live)) at
