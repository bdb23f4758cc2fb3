-- The blocks that a splice makes anew.
use Rattle.std.specs.Prelude.{ℕ, ◌≡◌, ◌+◌, ◌-◌, ◌<◌, ◌≤◌, ◌++◌, List, length, take, drop, max, min}
use Rattle.std.specs.List.{All, concat}
use Rattle.span_order.specs.Blocks.{block_at, size_before, size_behind}
use Rattle.span_order.specs.declared.places.Place.{Place}
use Rattle.span_order.specs.declared.run.Run.{Run}
use Rattle.span_order.specs.declared.window.Window.{Window}
use Rattle.span_order.specs.declared.window.Written.{Written}

-- the slots of the three lists of a run
abbrev pub all_of : Run → List ℕ
all_of run = run.head.now ++ (run.slots.now ++ run.tail.now)

-- a window keeps what stands before its blocks and behind them, with their first slots and their last
pub record IsWindow (blocks : List (List ℕ)) (ahead behind : List ℕ) (window : Window) : Type 0 where
  pub order : window.first ≤ window.end
  pub within : window.end ≤ length blocks
  pub front : ahead ≡ concat (take window.first blocks) ++ window.head
  pub back : behind ≡ window.tail ++ concat (drop window.end blocks)

-- how many slots a window's blocks will hold where so many come
abbrev pub size_of : Window → ℕ → ℕ
size_of window slots = length window.head + (slots + length window.tail)

-- how many slots a block holds where so many take the place of those between two places of it
abbrev pub count_within : List (List ℕ) → Place → Place → ℕ → ℕ
count_within blocks from to slots = length (block_at blocks from.block) - (to.index - from.index) + slots

-- so many slots can come within one block, and leave the blocks packed
pub record FitsWithin (blocks : List (List ℕ)) (from to : Place) (slots : ℕ) : Type 0 where
  pub block : from.block < length blocks
  pub one : from.block ≡ to.block
  pub some : 0 < count_within blocks from to slots
  pub few : count_within blocks from to slots ≤ 64
  pub before : 32 < size_before blocks from.block + count_within blocks from to slots
  pub behind : 32 < count_within blocks from to slots + size_behind blocks (from.block + 1)

-- how many slots each piece of so many holds at least
abbrev pub least_piece : ℕ → ℕ
least_piece slots = max 1 (min 32 slots)

-- pieces hold a list in blocks, none much smaller than the others
pub record ArePieces (pieces : List (List ℕ)) (all : List ℕ) (least : ℕ) : Type 0 where
  pub joined : concat pieces ≡ all
  pub sizes : All (λ piece. least ≤ length piece) pieces

-- pieces of a list stand in the place of the first blocks of a window
pub record IsWritten (old new : List (List ℕ)) (first end : ℕ) (all : List ℕ) (least : ℕ) (written : Written) : Type 0 where
  pub pieces : List (List ℕ)
  pub are : ArePieces pieces all least
  pub is : new ≡ take first old ++ (pieces ++ drop written.over old)
  pub next : written.next ≡ first + length pieces
  pub from : first ≤ written.over
  pub within : written.over ≤ end
