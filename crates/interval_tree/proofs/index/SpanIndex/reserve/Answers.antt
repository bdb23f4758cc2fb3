-- In want of memory for the ids there is room for the rows, and all else is as it was.
use Rattle.interval_tree.proofs.IndexFilled.{whole_more}
use Rattle.interval_tree.proofs.index.SpanIndex.reserve.Goals as goal

pub invariant_of-self-in_err-reserve-2 : goal.invariant_of-self-in_err-reserve-2
invariant_of-self-in_err-reserve-2 c =
    whole_more c.self.inside.rows c.reserve.new.self c.self.inside.ids c.reserve-2.new.self _ _ _ _ _
    c.reserve.ensures.kept c.reserve.ensures.slots c.reserve.ensures.starts c.reserve.ensures.ends c.reserve-2.ensures.named c.self.invariant
