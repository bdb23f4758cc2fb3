-- The slots behind move to their place, and those that come are written before them.
use Rattle.std.proofs.Common.{◌≡◌, ℕ, ◌≤◌, ◌+◌, ◌-◌, List, ◌++◌, length, take, drop, sym, ap, ◌∙◌, arith}
use Rattle.std.specs.List.{copy_within}
use Rattle.std.proofs.lemmas.List.{length-take-le, same_lists, places}
use borrow.Rule.Slice.PartMut.{put_mid}
use Rattle.span_order.proofs.block.Block.replace.Goals as goal

replaced : (xs ys : List ℕ) (count from to n : ℕ) → n ≡ length ys → from ≤ to → to ≤ count → count ≤ length xs
    → from + n + (count - to) ≤ length xs
    → take (count - to + (from + n)) (put_mid from (from + n - from) (copy_within xs to count (from + n)) ys)
    ≡ take from (take count xs) ++ (ys ++ drop to (take count xs))
replaced xs ys count from to n long order within inside room = same_lists _ _ (grind (arith, places)) (λ k d h. grind (arith, places))

pub returns : goal.returns
returns c =
    let a = c.args in
    let s = a.slots.now in
    let few : c.self.inside.count ≤ 64 = c.self.invariant in
    let full = c.self.told in
    let view = sym (length-take-le c.self.inside.count c.self.inside.slots (omega arith)) ∙ ap length c.self.view_is in
    rw (c.copy_from_slice.ensures.after, c.copy_within.ensures.after, ← c.self.view_is)
    (replaced c.self.inside.slots s c.self.inside.count a.from a.to (length s) (omega arith) c.requires.order (omega arith) (omega arith) (omega arith))
