-- Orders of the slots of rows.
use Rattle.std.specs.Prelude.{ℕ, List}
use Rattle.std.specs.List.{concat}
use Rattle.std.specs.List.Sorted.{IsPermutation, IsNonDecreasingBy}
use Rattle.span_order.specs.Blocks.{Row}
use Rattle.span_order.specs.Ranked.{rank_in}
use Rattle.span_order.specs.Topped.{IsTopped, ToppedRow}

-- the slots of the rows in an order that rises by these numbers
pub record IsOrder (keys slots order : List ℕ) : Type 0 where
  pub all : IsPermutation slots order
  pub rising : IsNonDecreasingBy (rank_in keys) order

-- both orders of some slots, and the greatest ends over the one by start
pub record AreOrders (starts ends slots : List ℕ) (by_start : ToppedRow) (by_end : Row) : Type 0 where
  pub starting : IsOrder starts slots (concat by_start.blocks)
  pub topped : IsTopped ends by_start.blocks by_start.tops
  pub ending : IsOrder ends slots (concat by_end.blocks)
