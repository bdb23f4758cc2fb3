-- The slot goes in among those of the other rows, in both orders.
use Rattle.std.proofs.Common.{◌<◌, length, sym, subst, arith}
use Rattle.std.specs.List.{All, concat, filter}
use Rattle.std.specs.List.Sorted.{IsNonDecreasingBy}
use Rattle.std.proofs.lemmas.List.Elements.{All-filter}
use Rattle.std.proofs.lemmas.List.Sorted.{All-permutation}
use Rattle.row_kinds.specs.Kinds.{is_other}
use Rattle.row_kinds.proofs.KindSlots.{climbs_from}
use Rattle.span_order.specs.Ranked.{rank_in}
use Rattle.span_order.specs.Topped.{IsTopped}
use Rattle.interval_tree.proofs.OrderLaws.{order_entered}
use Rattle.interval_tree.proofs.orders.Orders.enter.Goals as goal

pub insert-requires-clause-ends : goal.insert-requires-clause-ends
insert-requires-clause-ends c =
    let rows = c.args.rows.now in
    let order = concat c.args.self.now.by_start.blocks in
    subst (λ ends. All (λ other. other < length ends) order) (sym c.ends.ensures)
    (All-permutation (λ other. other < length rows.ends) (filter (is_other c.args.slot) rows.slots) order c.requires.others.starting.all
    (All-filter (is_other c.args.slot) (λ other. other < length rows.ends) rows.slots
    (λ k d within. omega (arith, c.count-count.ensures.below k d within, c.count-count.ensures.ends))))

pub insert-requires-clause-rising : goal.insert-requires-clause-rising
insert-requires-clause-rising c = subst (λ keys. IsNonDecreasingBy (rank_in keys) (concat c.args.self.now.by_start.blocks)) (sym c.starts.ensures)
    c.requires.others.starting.rising

pub insert-requires-2-clause-rising : goal.insert-requires-2-clause-rising
insert-requires-2-clause-rising c = subst (λ keys. IsNonDecreasingBy (rank_in keys) (concat c.args.self.now.by_end.blocks)) (sym c.ends-2.ensures)
    c.requires.others.ending.rising

pub returns-clause-orders : goal.returns-clause-orders
returns-clause-orders c =
    let rows = c.args.rows.now in
    let up = climbs_from rows.slots c.count-count.ensures.rising in
    let by_start = c.insert.new.self in
    let by_end = c.insert-2.new.self in
    record {
      starting = order_entered rows.starts rows.slots (concat c.args.self.now.by_start.blocks) (concat by_start.blocks) c.args.slot up c.requires.among
          c.requires.others.starting c.insert.ensures.all
          (subst (λ keys. IsNonDecreasingBy (rank_in keys) (concat by_start.blocks)) c.starts.ensures c.insert.ensures.rising);
      topped = subst (λ ends. IsTopped ends by_start.blocks by_start.tops) c.ends.ensures c.insert.ensures.topped;
      ending = order_entered rows.ends rows.slots (concat c.args.self.now.by_end.blocks) (concat by_end.blocks) c.args.slot up c.requires.among
          c.requires.others.ending c.insert-2.ensures.all
          (subst (λ keys. IsNonDecreasingBy (rank_in keys) (concat by_end.blocks)) c.ends-2.ensures c.insert-2.ensures.rising);
    }
