-- The tops of blocks.
use Rattle.std.proofs.Common.{ℕ, ◌<◌, List, length, map, get_or, arith}
use Rattle.std.proofs.lemmas.List.{get_or-map, length-map}
use Rattle.span_order.specs.Tops.{IsTop}
use Rattle.span_order.proofs.Crests.{greatest_above}
use Rattle.span_order.specs.declared.tops.Top.{Top}

-- where the greatest end is before a bound, all are
pub below_crest : (ends slots : List ℕ) (top : Top) (bound : ℕ) → IsTop ends slots top → top.crest < bound
    → (at : ℕ) → at < length slots → get_or ends (get_or slots at 0) 0 < bound
below_crest ends slots top bound is below at within =
    let above = greatest_above (map (λ slot. get_or ends slot 0) slots) at (omega (arith, length-map slots (λ slot. get_or ends slot 0))) in
    let same = get_or-map (λ slot. get_or ends slot 0) slots at 0 0 within in
    let crest = is.crest in
    omega arith
