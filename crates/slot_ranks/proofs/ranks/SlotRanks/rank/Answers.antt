-- Past the last slot all live ones stand before it.
use Rattle.std.proofs.Common.{◌≡◌, ◌≤◌, ap, length, sym, ◌∙◌, arith}
use Rattle.slot_ranks.specs.Slots.{Slots, rank}
use Rattle.slot_ranks.proofs.Below.{rank-zero, rank_past, ranks_rise}
use Rattle.slot_ranks.proofs.ranks.SlotRanks.rank.Goals as goal

pub returns-else-slot-len-clause-rank : goal.returns-else-slot-len-clause-rank
returns-else-slot-len-clause-rank c =
    let same = ap (λ (s : Slots). length s.live) c.self.view_is in
    let past : length c.self.inside.live.items ≤ c.args.slot = omega arith in
    c.self.invariant.count ∙ sym (rank_past c.self.inside.live.items c.args.slot past)
    ∙ ap (λ (s : Slots). rank s.live c.args.slot) c.self.view_is

pub returns-else-slot-len-clause-within : goal.returns-else-slot-len-clause-within
returns-else-slot-len-clause-within c =
    let is = returns-else-slot-len-clause-rank c in
    let none = rank-zero c.args.self.now.live in
    let rise = ranks_rise c.args.self.now.live 0 c.args.slot (omega arith) in
    omega arith
