-- What an iterator over live slots has left.
use Rattle.std.specs.Prelude.{ℕ, List, drop}
use Rattle.slot_ranks.specs.declared.iter.LiveSlots.{LiveSlots}
use Rattle.slot_ranks.specs.Slots.{line, rank}

-- the live slots that it yields next
abbrev pub slots_left : LiveSlots → List ℕ
slots_left iter = drop (rank iter.ranks.now.live iter.slot) (line iter.ranks.now.live)
