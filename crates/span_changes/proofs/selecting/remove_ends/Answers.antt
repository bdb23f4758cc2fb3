-- The ends go one after the other, and are told of so.
use Rattle.std.proofs.Common.{◌≡◌, ◌++◌, ◌-◌, [], not, ap, subst, sym, ◌∙◌}
use Rattle.std.specs.List.{filter}
use Rattle.edit_model.specs.Attached.{has_id, without_span, spans_of as spans_with}
use Rattle.edit_model.specs.Changed.{spans_effect}
use Rattle.edit_model.specs.Rows.{spans_in}
use Rattle.edit_model.specs.Selection.{is_of_selection}
use Rattle.edit_model.specs.WellFormed.{HasDistinctIds}
use Rattle.edit_model.proofs.SpanLists.{distinct-filter}
use Rattle.span_table.specs.Table.{spans_of}
use Rattle.span_changes.proofs.Ends.{second_end, without_ends}
use Rattle.span_changes.proofs.MovedLaws.{begun_tells}
use Rattle.span_changes.proofs.Spans.{effect_from}
use Rattle.span_changes.proofs.selecting.remove_ends.Goals as goal

module _ (c : goal.After-remove_also-2) where
  once : spans_of c.remove_also.new.change.moved.rows ≡ without_span c.first_end-first.result (spans_of c.args.change.now.moved.rows)
  once = c.remove_also.ensures.rows ∙ ap (λ moves. without_span c.first_end-first.result (spans_of moves.rows)) c.start.ensures.moved

pub remove_also-requires-2-clause-distinct : goal.remove_also-requires-2-clause-distinct
remove_also-requires-2-clause-distinct c =
    let once = c.remove_also.ensures.rows ∙ ap (λ moves. without_span c.first_end-first.result (spans_of moves.rows)) c.start.ensures.moved in
    subst HasDistinctIds (sym once)
    (distinct-filter (λ span. not (has_id c.first_end-first.result span)) (spans_of c.args.change.now.moved.rows) c.requires.distinct)

pub returns-clause-rows : goal.returns-clause-rows
returns-clause-rows c =
    c.remove_also-2.ensures.rows
    ∙ ap (without_span (1 - c.first_end-first.result)) (once c)
    ∙ without_ends c.first_end-first.result c.first_end-first.ensures.within (spans_of c.args.change.now.moved.rows)

pub returns-clause-effect : goal.returns-clause-effect
returns-clause-effect c =
    let spans = spans_of c.args.change.now.moved.rows in
    let id = c.first_end-first.result in
    let first = c.remove_also.ensures in
    let last = c.remove_also-2.ensures in
    let same = ap (λ moves. spans_of moves.rows) c.start.ensures.moved in
    let gone : spans_in c.remove_also.new.change.removed.items ≡ spans_with id spans =
    first.removed
    ∙ ap (λ rows. spans_in rows ++ spans_with id (spans_of c.start.new.self.moved.rows)) c.start.ensures.removed
    ∙ ap (spans_with id) same in
    effect_from _ _ _ (spans_effect (filter is_of_selection spans) [] [])
    (last.start ∙ first.start ∙ c.start.ensures.start) (last.old_end ∙ first.old_end ∙ c.start.ensures.old_end)
    (last.grown ∙ first.grown ∙ c.start.ensures.grown)
    (last.removed
    ∙ ap (λ others. others ++ spans_with (1 - id) (spans_of c.remove_also.new.change.moved.rows)) gone
    ∙ ap (λ others. spans_with id spans ++ others)
    (ap (spans_with (1 - id)) (once c) ∙ second_end id c.first_end-first.ensures.within spans)
    ∙ ap (λ others. spans_with id others ++ spans_with (1 - id) others) (sym (c.rows.ensures.spans ∙ same))
    ∙ c.first_end-first.ensures.order
    ∙ ap (filter is_of_selection) (c.rows.ensures.spans ∙ same))
    (begun_tells c.remove_also-2.new.change.moved last.begun)
    (ap spans_in (last.added ∙ first.added ∙ c.start.ensures.added))
