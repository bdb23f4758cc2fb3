-- The slots of rows have ends.
use Rattle.std.proofs.Common.{◌<◌, length, sym, subst, arith}
use Rattle.std.specs.List.{All, concat}
use Rattle.std.proofs.lemmas.List.Sorted.{All-permutation}
use Rattle.span_order.specs.Topped.{IsTopped}
use Rattle.interval_tree.specs.Orders.{IsOrder}
use Rattle.interval_tree.proofs.orders.Orders.raise.Goals as goal

pub raise-requires : goal.raise-requires
raise-requires c =
    let rows = c.args.rows.now in
    let order = concat c.args.self.now.by_start.blocks in
    subst (λ ends. All (λ other. other < length ends) order) (sym c.ends.ensures)
    (All-permutation (λ other. other < length rows.ends) rows.slots order c.requires.starting.all
    (λ k d within. omega (arith, c.count-count.ensures.below k d within, c.count-count.ensures.ends)))

pub returns-clause-orders : goal.returns-clause-orders
returns-clause-orders c =
    let rows = c.args.rows.now in
    let by_start = c.raise.new.self in
    record {
      starting = subst (λ blocks. IsOrder rows.starts rows.slots (concat blocks)) (sym c.raise.ensures.blocks) c.requires.starting;
      topped = subst (λ ends. IsTopped ends by_start.blocks by_start.tops) c.ends.ensures c.raise.ensures.topped;
      ending = c.requires.ending;
    }
