-- The rows that go are those of the places that are found.
use Rattle.std.proofs.Common.{◌≡◌, ◌<◌, ◌∙◌, ap, length, subst, sym}
use Rattle.std.specs.List.{All}
use Rattle.edit_model.specs.Replaced.{is_emptied}
use Rattle.edit_model.specs.Rows.{spans_in}
use Rattle.interval_tree.specs.Answers.{IsRising, orders_of}
use Rattle.moved_rows.specs.Removing.{passing}
use Rattle.moved_rows.proofs.Places.{passing_rising, passing_within}
use Rattle.span_changes.proofs.Lists.{length-spans_of}
use Rattle.span_table.specs.Table.{spans_of}
use Rattle.replace_engine.proofs.MovingNone.{spared_by_none, spared_kept, spared_none}
use Rattle.replace_engine.proofs.moving.drop_emptied.Given.{Over}
use Rattle.replace_engine.proofs.moving.drop_emptied.Goals as goal

pub returns-then-start-end-clause-kept : goal.returns-then-start-end-clause-kept
returns-then-start-end-clause-kept g c =
    spared_kept c.args.start c.args.end c.args.grown (spans_of c.args.moved.now.rows)
    (spared_by_none c.args.start c.args.end c.args.grown c.if-start-end.true (spans_of c.args.moved.now.rows))

pub returns-then-start-end-clause-removed : goal.returns-then-start-end-clause-removed
returns-then-start-end-clause-removed g c =
    ap spans_in c.requires.none
    ∙ spared_none c.args.start c.args.end c.args.grown (spans_of c.args.moved.now.rows)
    (spared_by_none c.args.start c.args.end c.args.grown c.if-start-end.true (spans_of c.args.moved.now.rows))

orders : (g : Over) (c : goal.After-deref g) → orders_of c.deref.result.now ≡ passing (is_emptied c.args.start c.args.end c.args.grown) (spans_of c.args.moved.now.rows)
orders g c =
    ap orders_of c.deref.ensures.value ∙ c.find_emptied.ensures.orders
    ∙ ap (passing (is_emptied c.args.start c.args.end c.args.grown)) c.rows.ensures.spans

pub remove_rows-requires-clause-rising : goal.remove_rows-requires-clause-rising
remove_rows-requires-clause-rising g c =
    subst IsRising (sym (orders g c)) (passing_rising (is_emptied c.args.start c.args.end c.args.grown) (spans_of c.args.moved.now.rows))

pub remove_rows-requires-clause-within : goal.remove_rows-requires-clause-within
remove_rows-requires-clause-within g c =
    subst (λ n. All (λ i. i < n) (orders_of c.deref.result.now)) (length-spans_of c.args.moved.now.rows)
    (subst (All (λ i. i < length (spans_of c.args.moved.now.rows))) (sym (orders g c))
    (passing_within (is_emptied c.args.start c.args.end c.args.grown) (spans_of c.args.moved.now.rows)))
