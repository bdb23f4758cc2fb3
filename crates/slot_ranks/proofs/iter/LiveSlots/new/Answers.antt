-- None is passed.
use Rattle.std.proofs.Common.{ap, drop}
use Rattle.slot_ranks.specs.Slots.{line}
use Rattle.slot_ranks.proofs.Below.{rank-zero}
use Rattle.slot_ranks.proofs.iter.LiveSlots.new.Goals as goal

pub returns : goal.returns
returns c = ap (λ n. drop n (line c.args.ranks.now.live)) (rank-zero c.args.ranks.now.live)
