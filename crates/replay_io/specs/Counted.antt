-- Calls that are counted, of which those with listed numbers fail.
use Rattle.std.specs.Prelude.{ℕ, ◌+◌, ◌==◌, min, List, Bool}
use Rattle.std.specs.List.{list_any}
use Rattle.replay_io.specs.Outside.{greatest_count}

-- the numbers of the calls that fail, the number of the next call, and how many calls failed
pub record Counted : Type 0 where
  pub failing : List ℕ
  pub next : ℕ
  pub faults : ℕ

-- a count that rises, and stands still at its end
abbrev pub one_more : ℕ → ℕ
one_more count = min (count + 1) greatest_count

-- no call was made yet
abbrev pub from_first : List ℕ → Counted
from_first failing = record { failing = failing; next = 1; faults = 0 }

-- whether the next call is one that fails
abbrev pub is_listed : Counted → Bool
is_listed calls = list_any (λ number. number == calls.next) calls.failing

-- behind a call that succeeded
abbrev pub after_success : Counted → Counted
after_success calls = record calls { next = one_more calls.next }

-- behind a call that failed
abbrev pub after_fault : Counted → Counted
after_fault calls = record calls { next = one_more calls.next; faults = one_more calls.faults }
