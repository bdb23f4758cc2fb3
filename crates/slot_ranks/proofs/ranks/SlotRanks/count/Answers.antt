-- No more slots are live than there are.
use Rattle.std.proofs.Common.{length, ap, arith}
use Rattle.slot_ranks.specs.Slots.{Slots}
use Rattle.slot_ranks.proofs.Below.{rank_bound}
use Rattle.slot_ranks.proofs.ranks.SlotRanks.count.Goals as goal

pub returns-clause-within : goal.returns-clause-within
returns-clause-within c =
    let live = c.self.inside.live.items in
    let bound = rank_bound live (length live) in
    let long = ap (λ (s : Slots). length s.live) c.self.view_is in
    let count = c.self.invariant.count in
    omega arith
