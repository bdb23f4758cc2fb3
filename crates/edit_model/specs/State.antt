-- A text with its spans.
use Rattle.std.specs.Prelude.{ℕ, ℤ, pos, negsuc, ◌≡◌, ◌≤◌, List, [], length}
use Rattle.edit_base.specs.declared.kinds.What.{What}

-- an attached span; places count units
pub record Span : Type 0 where
  pub id : ℕ
  pub start : ℕ
  pub end : ℕ
  pub flags : ℕ
  pub what : What

-- the UTF-16 units of a text, and its spans in order of attachment
pub record State : Type 0 where
  pub units : List ℕ
  pub spans : List Span

-- no units and no spans
abbrev pub empty_state : State
empty_state = record { units = []; spans = [] }

-- the present length, as the signed number that places are compared with
abbrev pub text_end : State → ℤ
text_end state = pos (length state.units)

-- a place that is known not to be below 0
abbrev pub place : ℤ → ℕ
place (pos n) = n
place (negsuc n) = 0

-- places that lie in a text of this length, in order
pub record ArePlaces (last : ℕ) (start end : ℤ) : Type 0 where
  pub starts : start ≡ pos (place start)
  pub ends : end ≡ pos (place end)
  pub ordered : place start ≤ place end
  pub within : place end ≤ last
