-- Bytes behind those that stood before.
use Rattle.std.specs.Prelude.{ℕ, ◌≡◌, ◌++◌, List}

-- what stood before is still a prefix
pub record Extends (old new : List ℕ) : Type 0 where
  pub more : List ℕ
  pub is : new ≡ old ++ more
