-- The counts before the block and in it make the rank.
use Rattle.std.proofs.Common.{◌≡◌, ◌<◌, ◌/◌, length, arith, ap, sym, subst, ◌∙◌, ◌+◌}
use Rattle.std.proofs.lemmas.List.{get_or_read}
use Rattle.slot_ranks.specs.Slots.{Slots, rank}
use Rattle.slot_ranks.proofs.Below.{ranks_rise, rank-zero}
use Rattle.slot_ranks.proofs.Tables.{rank_read}
use Rattle.slot_ranks.proofs.ranks.SlotRanks.rank_within.Goals as goal

pub returns-clause-rank : goal.returns-clause-rank
returns-clause-rank c =
    let live = c.self.inside.live.items in
    let ranks = c.self.invariant.ranks in
    let slots = ranks.slots in
    let blocks = ranks.blocks in
    let within = subst (λ (s : Slots). c.args.slot < length s.live) (sym c.self.view_is) c.requires in
    let front = get_or_read c.self.inside.before.items (c.args.slot / 64) c.index.result.now (omega arith) c.index.ensures 0 in
    let inner = get_or_read c.self.inside.inner.items c.args.slot c.index-2.result.now (omega arith) c.index-2.ensures 0 in
    let read = rank_read live c.self.inside.inner.items c.self.inside.before.items ranks c.args.slot within in
    let from = c.from.ensures in
    let sum : c.index.result.now + c.from.result ≡ rank live c.args.slot = omega arith in
    sum ∙ ap (λ (s : Slots). rank s.live c.args.slot) c.self.view_is

pub returns-clause-within : goal.returns-clause-within
returns-clause-within c =
    let is = returns-clause-rank c in
    let none = rank-zero c.args.self.now.live in
    let rise = ranks_rise c.args.self.now.live 0 c.args.slot (omega arith) in
    omega arith

pub overflow_add-result : goal.overflow_add-result
overflow_add-result c = let within = returns-clause-within c in omega arith
