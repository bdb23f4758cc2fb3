-- What moves and writes in a buffer with a gap leave of the text.
use Rattle.std.proofs.Common.{◌≡◌, ℕ, ◌+◌, ◌-◌, ◌≤◌, List, ◌++◌, length, take, drop, arith, rules}
use Rattle.std.specs.List.{copy_within}
use Rattle.std.proofs.lemmas.List.{same_lists, places}
use Rattle.std.proofs.lemmas.Slice.{overwrites}
use borrow.Rule.Slice.PartMut.{put_mid}
use Rattle.utf16_gap.specs.Gap.{around}

-- the units from a place to the gap go behind it
pub moved_behind : (xs : List ℕ) (gap spare to : ℕ) → to ≤ gap → gap + spare ≤ length xs
    → around (copy_within xs to gap (to + spare)) to spare ≡ around xs gap spare
moved_behind xs gap spare to order within = same_lists _ _ (grind (arith, places)) (λ k d h. grind (arith, places))

-- the units from the gap to a place go before it
pub moved_before : (xs : List ℕ) (gap spare to : ℕ) → gap ≤ to → to + spare ≤ length xs
    → around (copy_within xs (gap + spare) (to + spare) gap) to spare ≡ around xs gap spare
moved_before xs gap spare to order within = same_lists _ _ (grind (arith, places)) (λ k d h. grind (arith, places))

-- units that are written at the gap's start stand before what is left of it
pub written : (xs ys : List ℕ) (gap spare n : ℕ) → n ≡ length ys → length ys ≤ spare → gap + spare ≤ length xs
    → around (put_mid gap n xs ys) (gap + length ys) (spare - length ys) ≡ take gap xs ++ ys ++ drop (gap + spare) xs
written xs ys gap spare n long room within = search (rules, overwrites)

-- the units round the gap fall into it
pub let_go : (xs : List ℕ) (gap spare start end : ℕ) → start ≤ gap → gap ≤ end → gap + spare ≤ length xs
    → around xs start (spare + (end - start)) ≡ take start (around xs gap spare) ++ drop end (around xs gap spare)
let_go xs gap spare start end before behind within = same_lists _ _ (grind (arith, places)) (λ k d h. grind (arith, places))

pub ruleset moves = (moved_behind, moved_before)
