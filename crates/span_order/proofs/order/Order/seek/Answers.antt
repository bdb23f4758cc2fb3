-- The blocks are those that clauses speak of.
use Rattle.std.proofs.Common.{ℕ, List, ap, ◌∙◌, subst}
use Rattle.std.specs.List.{concat}
use Rattle.std.specs.List.Sorted.{IsNonDecreasingBy}
use Rattle.span_order.specs.Blocks.{number_of}
use Rattle.span_order.specs.Ranked.{IsParted, rank_in, rank_of}
use Rattle.span_order.proofs.order.Order.seek.Goals as goal

pub returns-clause-parted : goal.returns-clause-parted
returns-clause-parted c =
    let keys = c.args.keys.now in
    let P : List (List ℕ) → Type 0 = λ bs. IsNonDecreasingBy (rank_in keys) (concat bs)
    → IsParted keys (concat bs) (rank_of c.args.number c.args.slot) (number_of bs c.place_from.result) in
    subst P (c.deref.ensures.value ∙ ap (λ row. row.blocks) c.self.view_is) c.place_from.ensures.parted
