use Rattle.std.proofs.Common.{◌≡◌, ◌+◌, ◌-◌, length, arith, ap, ◌∙◌}
use Rattle.std.proofs.lemmas.List.{with_items_is, places}
use borrow.Rule.Slice.PartMut.{put_mid}
use Rattle.utf16_gap.specs.Gap.{around}
use Rattle.utf16_gap.proofs.Moves.{written}
use Rattle.utf16_gap.proofs.buffer.write.Goals as goal

pub returns-clause-text : goal.returns-clause-text
returns-clause-text c =
    let a = c.args in
    let n = a.gap + length a.units.now - a.gap in
    let long : n ≡ length a.units.now = omega arith in
    rw (c.copy_from_slice.ensures.after, c.deref_mut.ensures.value)
    (ap (λ items. around items (a.gap + length a.units.now) (a.spare - length a.units.now))
    (with_items_is a.buffer.now (put_mid a.gap n a.buffer.now.items a.units.now) (grind (arith, places)))
    ∙ written a.buffer.now.items a.units.now a.gap a.spare n long c.requires.room (grind arith))
