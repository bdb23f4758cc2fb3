-- Hits among the entries of a list.
use Rattle.std.proofs.Common.{◌≡◌, ℕ, suc, zero, ◌<◌, ◌≤◌, ◌+◌, ◌-◌, Bool, true, false, inl, inr, List, [], ◌∷◌, length, drop, get_or, refl, ap, ◌∙◌, arith}
use Rattle.std.specs.List.{All, filter, concat}
use Rattle.std.specs.List.Sorted.{IsNonDecreasingBy}
use Rattle.std.proofs.lemmas.Bool.{cases_lt}
use Rattle.std.proofs.lemmas.Bool.Decides.{nat_tests}
use Rattle.std.proofs.lemmas.List.{drop_more, drop_all}
use Rattle.span_order.specs.Blocks.{block_at, start_of}
use Rattle.span_order.specs.Ranked.{rank_in}
use Rattle.span_order.specs.Hits.{AreBefore, is_hit}
use Rattle.span_order.specs.declared.hits.Asked.{Asked}
use Rattle.span_order.proofs.Entries.{entry_at}

-- entries that a test fails are passed by
pub passed : (p : ℕ → Bool) (slots : List ℕ) (from to : ℕ) → from ≤ to → to ≤ length slots
    → ((at : ℕ) → from ≤ at → at < to → p (get_or slots at 0) ≡ false) → filter p (drop from slots) ≡ filter p (drop to slots)
passed p slots from zero order within fails = let e : from ≡ 0 = omega arith in ap (λ n. filter p (drop n slots)) e
passed p slots from (suc to) order within fails = elim (cases_lt from (suc to)) [
  | inl more ↦ (let so_far = passed p slots from to (omega arith) (omega arith) (λ at low high. fails at low (omega arith)) in
      so_far ∙ ap (filter p) (drop_more slots to 0 (omega arith))
      ∙ (let e : to + 1 ≡ suc to = omega arith in rw (fails to (omega arith) (omega arith)) (ap (λ n. filter p (drop n slots)) e)))
  | inr none ↦ (let e : from ≡ suc to = omega arith in ap (λ n. filter p (drop n slots)) e)
]

-- an entry that passes stands first
pub picked : (p : ℕ → Bool) (slots : List ℕ) (at : ℕ) → at < length slots → p (get_or slots at 0) ≡ true
    → filter p (drop at slots) ≡ get_or slots at 0 ∷ filter p (drop (at + 1) slots)
picked p slots at within passes = ap (filter p) (drop_more slots at 0 within) ∙ rw passes refl

-- where all to the end fail, none is picked
pub none_picked : (p : ℕ → Bool) (slots : List ℕ) (from : ℕ) → from ≤ length slots
    → ((at : ℕ) → from ≤ at → at < length slots → p (get_or slots at 0) ≡ false) → filter p (drop from slots) ≡ []
none_picked p slots from within fails =
    passed p slots from (length slots) within (omega arith) fails ∙ ap (filter p) (drop_all (length slots) slots (omega arith))

-- what ends before the bound isn't hit
pub misses_before : (starts ends : List ℕ) (bound stop slot : ℕ) → get_or ends slot 0 < bound → is_hit starts ends bound stop slot ≡ false
misses_before starts ends bound stop slot before = grind (arith, nat_tests)

pub misses_behind : (starts ends : List ℕ) (bound stop slot : ℕ) → stop < get_or starts slot 0 → is_hit starts ends bound stop slot ≡ false
misses_behind starts ends bound stop slot behind = grind (arith, nat_tests)

pub hits : (starts ends : List ℕ) (bound stop slot : ℕ) → bound ≤ get_or ends slot 0 → get_or starts slot 0 ≤ stop → is_hit starts ends bound stop slot ≡ true
hits starts ends bound stop slot low high = grind (arith, nat_tests)

-- where starts rise, what follows an entry behind the stop is behind it too
pub all_behind : (starts slots : List ℕ) (ends stop from : ℕ) → IsNonDecreasingBy (rank_in starts) slots → All (λ slot. (slot < length starts) × (slot < ends)) slots → length starts ≤ 4294967296
    → stop < get_or starts (get_or slots from 0) 0 → (at : ℕ) → from ≤ at → at < length slots → stop < get_or starts (get_or slots at 0) 0
all_behind starts slots ends stop from rising few short behind at order within =
    let rank = rising from at 0 order within in
    let small = (few at 0 within).0 in
    omega arith

-- what is before the bound in a block is so in the list
pub before_in_block : (asked : Asked) (bs : List (List ℕ)) (b from to : ℕ) → b < length bs → to ≤ length (block_at bs b)
    → AreBefore asked (block_at bs b) from to → AreBefore asked (concat bs) (start_of bs b + from) (start_of bs b + to)
before_in_block asked bs b from to block index before = λ at low high.
    let front = start_of bs b in
    let e : at ≡ start_of bs b + (at - front) = omega arith in
    let is = ap (λ n. get_or (concat bs) n 0) e ∙ entry_at bs b (at - front) block (omega arith) in
    rw is (before (at - front) (omega arith) (omega arith))
