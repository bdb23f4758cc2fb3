-- One slot is passed with all dead ones before it.
use Rattle.std.proofs.Common.{◌∙◌, sym, ap, length, rules}
use Rattle.slot_ranks.proofs.Laws.{walked}
use Rattle.slot_ranks.proofs.iter.LiveSlotsIterator.next.Goals as goal

pub returns-clause-steps : goal.returns-clause-steps
returns-clause-steps c =
    walked c.args.self.now.ranks.now.live c.args.self.now.slot c.in_ok-slot.slot (sym c.live_from.ensures.slot ∙ c.in_ok-slot.was)

pub returns-clause-goes : goal.returns-clause-goes
returns-clause-goes c =
    let left = ap length (returns-clause-steps c) in
    search (rules, left)
