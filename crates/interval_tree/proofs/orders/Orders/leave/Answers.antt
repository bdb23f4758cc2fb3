-- The slot goes out of both orders, and the others stay in order.
use Rattle.std.proofs.Common.{◌<◌, length, sym, subst, arith}
use Rattle.std.specs.List.{All, concat, filter}
use Rattle.std.specs.List.Sorted.{IsNonDecreasingBy}
use Rattle.std.proofs.lemmas.List.Sorted.{All-permutation, Contains-permutation}
use Rattle.row_kinds.specs.Kinds.{is_other}
use Rattle.span_order.specs.Ranked.{rank_in}
use Rattle.span_order.specs.Topped.{IsTopped}
use Rattle.interval_tree.specs.Orders.{IsOrder}
use Rattle.interval_tree.proofs.Apart.{apart_of}
use Rattle.interval_tree.proofs.OrderLaws.{order_left}
use Rattle.interval_tree.proofs.orders.Orders.leave.Goals as goal

pub take_out-requires-clause-starts : goal.take_out-requires-clause-starts
take_out-requires-clause-starts c =
    let rows = c.args.rows.now in
    let order = concat c.args.self.now.by_start.blocks in
    subst (λ starts. All (λ other. other < length starts) order) (sym c.starts.ensures)
    (All-permutation (λ other. other < length rows.starts) rows.slots order c.requires.all.starting.all c.count-count.ensures.below)

pub take_out-requires-clause-ends : goal.take_out-requires-clause-ends
take_out-requires-clause-ends c =
    let rows = c.args.rows.now in
    let order = concat c.args.self.now.by_start.blocks in
    subst (λ ends. All (λ other. other < length ends) order) (sym c.ends.ensures)
    (All-permutation (λ other. other < length rows.ends) rows.slots order c.requires.all.starting.all
    (λ k d within. omega (arith, c.count-count.ensures.below k d within, c.count-count.ensures.ends)))

pub take_out-requires-clause-there : goal.take_out-requires-clause-there
take_out-requires-clause-there c =
    Contains-permutation c.args.rows.now.slots (concat c.args.self.now.by_start.blocks) c.args.slot c.requires.all.starting.all c.requires.among

pub take_out-requires-clause-apart : goal.take_out-requires-clause-apart
take_out-requires-clause-apart c =
    apart_of c.args.rows.now.slots (concat c.args.self.now.by_start.blocks) c.count-count.ensures.rising c.requires.all.starting.all

pub take_out-requires-clause-rising : goal.take_out-requires-clause-rising
take_out-requires-clause-rising c = subst (λ keys. IsNonDecreasingBy (rank_in keys) (concat c.args.self.now.by_start.blocks)) (sym c.starts.ensures)
    c.requires.all.starting.rising

pub take_out-requires-2-clause-keys : goal.take_out-requires-2-clause-keys
take_out-requires-2-clause-keys c =
    let rows = c.args.rows.now in
    let order = concat c.args.self.now.by_end.blocks in
    subst (λ ends. All (λ other. other < length ends) order) (sym c.ends-2.ensures)
    (All-permutation (λ other. other < length rows.ends) rows.slots order c.requires.all.ending.all
    (λ k d within. omega (arith, c.count-count.ensures.below k d within, c.count-count.ensures.ends)))

pub take_out-requires-2-clause-there : goal.take_out-requires-2-clause-there
take_out-requires-2-clause-there c =
    Contains-permutation c.args.rows.now.slots (concat c.args.self.now.by_end.blocks) c.args.slot c.requires.all.ending.all c.requires.among

pub take_out-requires-2-clause-apart : goal.take_out-requires-2-clause-apart
take_out-requires-2-clause-apart c =
    apart_of c.args.rows.now.slots (concat c.args.self.now.by_end.blocks) c.count-count.ensures.rising c.requires.all.ending.all

pub take_out-requires-2-clause-rising : goal.take_out-requires-2-clause-rising
take_out-requires-2-clause-rising c = subst (λ keys. IsNonDecreasingBy (rank_in keys) (concat c.args.self.now.by_end.blocks)) (sym c.ends-2.ensures)
    c.requires.all.ending.rising

pub returns-clause-orders : goal.returns-clause-orders
returns-clause-orders c =
    let rows = c.args.rows.now in
    let others = filter (is_other c.args.slot) rows.slots in
    let by_start = c.take_out.new.self in
    let by_end = c.take_out-2.new.self in
    record {
      starting = subst (IsOrder rows.starts others) (sym c.take_out.ensures.all)
          (order_left rows.starts rows.slots (concat c.args.self.now.by_start.blocks) c.args.slot c.requires.all.starting);
      topped = subst (λ ends. IsTopped ends by_start.blocks by_start.tops) c.ends.ensures c.take_out.ensures.topped;
      ending = subst (IsOrder rows.ends others) (sym c.take_out-2.ensures.all)
          (order_left rows.ends rows.slots (concat c.args.self.now.by_end.blocks) c.args.slot c.requires.all.ending);
    }
