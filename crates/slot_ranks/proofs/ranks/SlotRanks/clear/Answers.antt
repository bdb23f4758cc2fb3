-- The slot is cleared in either way.
use Rattle.std.proofs.Common.{◌≡◌, ◌+◌, ◌-◌, false, length, take, eqb, arith, ap, sym, ◌∙◌}
use Rattle.std.proofs.Math.ListN.{set}
use Rattle.std.proofs.lemmas.Bool.{cond-true, cond-false, eq-eqb, ne_eqb}
use Rattle.slot_ranks.specs.Slots.{Slots, line}
use Rattle.slot_ranks.proofs.Laws.{line_cleared}
use Rattle.slot_ranks.proofs.ranks.SlotRanks.clear.Goals as goal

pub returns-then-slot-len-clause-line : goal.returns-then-slot-len-clause-line
returns-then-slot-len-clause-line c =
    let live = c.args.self.now.live in
    let slot = c.args.slot in
    let long = ap (λ (s : Slots). length s.live) c.self.view_is in
    let last : slot + 1 ≡ length live = omega arith in
    let at : length live - 1 ≡ slot = omega arith in
    let cut = c.clear_last.ensures.live ∙ ap (λ k. take k live) at
    ∙ sym (cond-true (eqb (slot + 1) (length live)) (take slot live) (set live slot false) (eq-eqb _ _ last)) in
    ap line cut ∙ line_cleared live slot c.requires

pub returns-else-slot-len-clause-line : goal.returns-else-slot-len-clause-line
returns-else-slot-len-clause-line c =
    let live = c.args.self.now.live in
    let slot = c.args.slot in
    let long = ap (λ (s : Slots). length s.live) c.self.view_is in
    let dead = c.clear_inside.ensures.live
    ∙ sym (cond-false (eqb (slot + 1) (length live)) (take slot live) (set live slot false) (ne_eqb _ _ (λ e. omega arith))) in
    ap line dead ∙ line_cleared live slot c.requires
