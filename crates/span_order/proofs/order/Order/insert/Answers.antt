-- The slot goes where its rank parts the others.
use Rattle.std.proofs.Common.{ℕ, List, sym, subst}
use Rattle.std.specs.List.{concat}
use Rattle.std.specs.List.Sorted.{IsNonDecreasingBy}
use Rattle.std.proofs.lemmas.List.Sorted.{IsPermutation-insert}
use Rattle.span_order.specs.Blocks.{number_of}
use Rattle.span_order.specs.Ranked.{rank_in}
use Rattle.span_order.proofs.Entries.{place_within}
use Rattle.span_order.proofs.PlacedSlots.{placed_rises}
use Rattle.span_order.proofs.order.Order.insert.Goals as goal

pub returns-clause-all : goal.returns-clause-all
returns-clause-all c =
    rw c.splice.ensures.all (IsPermutation-insert (concat c.args.self.now.blocks) (number_of c.args.self.now.blocks c.seek-at.result) c.args.slot)

pub returns-clause-rising : goal.returns-clause-rising
returns-clause-rising c =
    let keys = c.args.keys.now in
    let bs = c.args.self.now.blocks in
    let at = c.seek-at.result in
    subst (λ (slots : List ℕ). IsNonDecreasingBy (rank_in keys) slots) (sym c.splice.ensures.all)
    (placed_rises keys (concat bs) c.args.slot (number_of bs at) c.requires.rising (place_within bs at c.seek-at.ensures.place)
    (c.seek-at.ensures.parted c.requires.rising))
