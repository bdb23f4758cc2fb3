-- Nothing is counted.
use Rattle.std.proofs.Common.{length, ap, arith}
use Rattle.slot_ranks.proofs.Tables.{none_live, none_ranks}
use Rattle.slot_ranks.proofs.ranks.SlotRanks.new.Goals as goal

pub invariant_of-result : goal.invariant_of-result
invariant_of-result c =
    let none = ap length c.new.ensures.items in
    record {
      ranks = none_ranks c.new.result.items c.new-2.result.items c.new-3.result.items c.new.ensures.items c.new-2.ensures.items c.new-3.ensures.items;
      count = none_live c.new.result.items c.new.ensures.items;
      few = omega arith;
    }
