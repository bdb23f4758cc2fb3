-- Nothing is counted.
use Rattle.std.proofs.Common.{length, ap, arith}
use Rattle.slot_ranks.proofs.Tables.{none_live, none_ranks}
use Rattle.slot_ranks.proofs.ranks.SlotRanks.clear_all.Goals as goal

pub invariant_of-self : goal.invariant_of-self
invariant_of-self c =
    let none = ap length c.clear.ensures.items in
    record {
      ranks = none_ranks c.clear.new.self.items c.clear-2.new.self.items c.clear-3.new.self.items c.clear.ensures.items c.clear-2.ensures.items
          c.clear-3.ensures.items;
      count = none_live c.clear.new.self.items c.clear.ensures.items;
      few = omega arith;
    }
