-- Places that lie in a text.
use Rattle.std.specs.Prelude.{ℕ, ◌≤◌, List, length}

-- both places of a range lie in the text
abbrev pub LiesIn : List ℕ → ℕ × ℕ → Type 0
LiesIn units range = (range.0 ≤ length units) × (range.1 ≤ length units)
