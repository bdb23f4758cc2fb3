-- What is found is sorted.
use Rattle.std.proofs.Common.{arith, subst, sym}
use Rattle.std.specs.List.Sorted.{IsPermutation}
use Rattle.std.specs.List.{All}
use Rattle.std.proofs.lemmas.List.{length-map}
use Rattle.std.proofs.lemmas.List.Sorted.{All-permutation}
use Rattle.edit_model.specs.Rows.{IsAtOrder}
use Rattle.interval_tree.specs.declared.walk.Asked.TheVariants.{Over}
use Rattle.span_table.specs.Table.{seen, spans_of}
use Rattle.interval_tree.proofs.QueryOrder.{found_orders, found_over}
use Rattle.interval_tree.proofs.QueryPlaces.{places_within}
use Rattle.interval_tree.proofs.query.over.Goals as goal

pub returns-clause-ok : goal.returns-clause-ok
returns-clause-ok g c =
    found_over c.args.start c.args.end c.args.pick (spans_of c.args.tree.rows.now) _ c.ask.ensures.places c.sort.new.rows.items
    (omega (arith, length-map c.args.tree.rows.now.kept (seen c.args.tree.rows.now.gap c.args.tree.rows.now.room), c.in_ok-ask.ensures.few))
    (subst (λ items. IsPermutation items c.sort.new.rows.items) c.in_ok-ask.ensures.ok c.sort.ensures.permutation) c.sort.ensures.rising

pub returns-clause-orders : goal.returns-clause-orders
returns-clause-orders g c =
    All-permutation (IsAtOrder (spans_of c.args.tree.rows.now)) c.ask.new.out.items c.sort.new.rows.items c.sort.ensures.permutation
    (subst (All (IsAtOrder (spans_of c.args.tree.rows.now))) (sym c.in_ok-ask.ensures.ok)
    (found_orders (Over c.args.pick) c.args.start c.args.end (spans_of c.args.tree.rows.now) _ (places_within _ _ c.ask.ensures.places)))
