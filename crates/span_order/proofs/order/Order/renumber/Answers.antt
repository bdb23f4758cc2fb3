-- Each block keeps its length.
use Rattle.std.proofs.Common.{◌≡◌, ℕ, List, length, map, vec_capacity, sym, ap, subst, ◌∙◌, arith}
use Rattle.std.specs.List.{concat}
use Rattle.std.proofs.lemmas.List.{length-map, with_items_is}
use Rattle.slot_ranks.specs.Slots.{rank}
use Rattle.span_order.specs.Blocks.{IsOrder}
use Rattle.span_order.proofs.Runs.{concat_map, packed_map}
use Rattle.span_order.proofs.order.Order.renumber.Goals as goal

pub invariant_of-self : goal.invariant_of-self
invariant_of-self c =
    let v = c.self.inside.blocks in
    let f = rank c.args.ranks.now.live in
    let is : c.renumber_blocks.new.blocks ≡ map (map f) v.items = c.renumber_blocks.ensures ∙ ap (map (map f)) c.deref_mut.ensures.value in
    let long = ap length is ∙ length-map v.items (map f) in
    let inv = c.self.invariant in
    let P : List (List ℕ) → Type 0 = λ bs. IsOrder bs (vec_capacity v) c.self.inside.count c.self.inside.spare in
    let count = ap length (concat_map f v.items) ∙ length-map (concat v.items) f in
    subst P (sym (with_items_is v c.renumber_blocks.new.blocks (omega arith) ∙ is))
    (record { packed = packed_map f v.items 33 inv.packed; count = inv.count ∙ sym count; few = inv.few; room = inv.room })

pub returns-clause-all : goal.returns-clause-all
returns-clause-all c =
    let v = c.self.inside.blocks in
    let f = rank c.args.ranks.now.live in
    let is : c.renumber_blocks.new.blocks ≡ map (map f) v.items = c.renumber_blocks.ensures ∙ ap (map (map f)) c.deref_mut.ensures.value in
    let long = ap length is ∙ length-map v.items (map f) in
    ap concat (with_items_is v c.renumber_blocks.new.blocks (omega arith) ∙ is) ∙ concat_map f v.items
    ∙ ap (λ row. map f (concat row.blocks)) c.self.view_is
