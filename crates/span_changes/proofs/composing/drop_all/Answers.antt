-- The rows that go are those of the places that are found, and are told of alone.
use Rattle.std.proofs.Common.{◌≡◌, ◌<◌, [], ap, length, subst, sym, ◌∙◌}
use Rattle.std.specs.List.{All, filter}
use Rattle.edit_model.specs.Changed.{spans_effect}
use Rattle.edit_model.specs.Rows.{spans_in}
use Rattle.edit_model.specs.Selection.{is_dropped}
use Rattle.interval_tree.specs.Answers.{IsRising, orders_of}
use Rattle.moved_rows.specs.Removing.{passing}
use Rattle.moved_rows.proofs.Places.{passing_rising, passing_within}
use Rattle.span_table.specs.Table.{spans_of}
use Rattle.span_changes.proofs.Lists.{length-spans_of}
use Rattle.span_changes.proofs.MovedLaws.{begun_tells}
use Rattle.span_changes.proofs.Spans.{effect_from}
use Rattle.span_changes.proofs.composing.drop_all.Goals as goal

orders : (c : goal.After-deref) → orders_of c.deref.result.now ≡ passing is_dropped (spans_of c.begin.new.self.rows)
orders c = ap orders_of c.deref.ensures.value ∙ c.find_dropped.ensures.orders ∙ ap (passing is_dropped) c.rows.ensures.spans

pub remove_rows-requires-clause-rising : goal.remove_rows-requires-clause-rising
remove_rows-requires-clause-rising c = subst IsRising (sym (orders c)) (passing_rising is_dropped (spans_of c.begin.new.self.rows))

pub remove_rows-requires-clause-within : goal.remove_rows-requires-clause-within
remove_rows-requires-clause-within c =
    subst (λ n. All (λ i. i < n) (orders_of c.deref.result.now)) (length-spans_of c.begin.new.self.rows)
    (subst (All (λ i. i < length (spans_of c.begin.new.self.rows))) (sym (orders c)) (passing_within is_dropped (spans_of c.begin.new.self.rows)))

pub returns-clause-effect : goal.returns-clause-effect
returns-clause-effect c =
    effect_from _ _ _ (spans_effect (filter is_dropped (spans_of c.args.change.now.moved.rows)) [] [])
    c.start.ensures.start c.start.ensures.old_end c.start.ensures.grown
    (c.find_dropped.ensures.spans
    ∙ ap (filter is_dropped) (c.rows.ensures.spans ∙ ap spans_of (c.begin.ensures.rows) ∙ ap (λ moves. spans_of moves.rows) c.start.ensures.moved))
    (begun_tells c.remove_rows.new.moved c.remove_rows.ensures.begun)
    (ap spans_in c.start.ensures.added)
