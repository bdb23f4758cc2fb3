-- What is found is each row that touches the range.
use Rattle.std.proofs.Common.{◌≡◌, List, [], Result, Ok, Err, subst, sym}
use Rattle.std.specs.List.{All}
use Rattle.std.specs.List.Sorted.{IsPermutation}
use Rattle.std.specs.Result.{OnErr, OnOk}
use Rattle.std.proofs.lemmas.List.Elements.{All-nil}
use Rattle.std.proofs.lemmas.Result.{on_ok_weaker}
use Rattle.edit_model.specs.Rows.{IsAtOrder}
use Rattle.interval_tree.specs.declared.walk.Asked.TheVariants.{Touching}
use Rattle.interval_tree.specs.Answers.{orders_of, touching}
use Rattle.span_table.specs.Table.{spans_of}
use Rattle.interval_tree.proofs.QueryOrder.{found_orders, found_touching}
use Rattle.interval_tree.proofs.QueryPlaces.{places_within}
use Rattle.interval_tree.proofs.query.touching.Goals as goal

either_way : {T E : Type 0} (P : List E → Type 0) (result : Result Unit T) (out : List E) (found : List E) → OnOk result (out ≡ found) → OnErr result
    (out ≡ []) → P found → P [] → P out
either_way P (Ok done) out found here there first second = subst P (sym here) first
either_way P (Err failed) out found here there first second = subst P (sym there) second

pub returns-clause-ok : goal.returns-clause-ok
returns-clause-ok g c =
    on_ok_weaker c.ask.result
    (λ is. subst (λ items. IsPermutation (touching c.args.start c.args.end (spans_of c.args.tree.rows.now)) (orders_of items)) (sym is)
    (found_touching c.args.start c.args.end (spans_of c.args.tree.rows.now) _ c.ask.ensures.places))
    c.ask.ensures.ok

pub returns-clause-orders : goal.returns-clause-orders
returns-clause-orders g c =
    either_way (All (IsAtOrder (spans_of c.args.tree.rows.now))) c.ask.result c.ask.new.out.items _ c.ask.ensures.ok c.ask.ensures.err
    (found_orders Touching c.args.start c.args.end (spans_of c.args.tree.rows.now) _ (places_within _ _ c.ask.ensures.places))
    (All-nil (IsAtOrder (spans_of c.args.tree.rows.now)))
