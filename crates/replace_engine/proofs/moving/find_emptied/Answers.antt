-- Of the rows that touch the range those that are emptied, in order of attachment.
use Rattle.span_changes.proofs.Lists.{on_ok}
use Rattle.span_table.specs.Table.{spans_of}
use Rattle.replace_engine.proofs.Emptied.{sorted_orders, sorted_spans}
use Rattle.replace_engine.proofs.moving.find_emptied.Goals as goal

pub returns-clause-spans : goal.returns-clause-spans
returns-clause-spans g c =
    sorted_spans c.args.start c.args.end c.args.grown (spans_of c.args.rows.now) c.touching.new.out.items c.keep_emptied.new.rows.items
    c.sort_by_order.new.rows.items c.touching.ensures.orders c.requires.forward
    (on_ok c.touching.result (c.touching.ensures.room c.requires.room) c.touching.ensures.ok)
    c.keep_emptied.ensures.rows c.sort_by_order.ensures.permutation c.sort_by_order.ensures.rising

pub returns-clause-orders : goal.returns-clause-orders
returns-clause-orders g c =
    sorted_orders c.args.start c.args.end c.args.grown (spans_of c.args.rows.now) c.touching.new.out.items c.keep_emptied.new.rows.items
    c.sort_by_order.new.rows.items c.touching.ensures.orders c.requires.forward
    (on_ok c.touching.result (c.touching.ensures.room c.requires.room) c.touching.ensures.ok)
    c.keep_emptied.ensures.rows c.sort_by_order.ensures.permutation c.sort_by_order.ensures.rising
