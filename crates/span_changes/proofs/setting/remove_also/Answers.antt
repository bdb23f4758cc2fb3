-- Ids are distinct, so the row that goes is the one with the id; without one nothing goes.
use Rattle.std.proofs.Common.{◌≡◌, ◌++◌, Some, false, is_some, [], ◌∷◌, ap, sym, ◌∙◌}
use Rattle.edit_model.specs.Attached.{is_attached}
use Rattle.edit_model.specs.Rows.{span_of, spans_in}
use Rattle.std.proofs.lemmas.List.{append-nil, map-append}
use Rattle.span_table.specs.Table.{row_place, span_at, spans_of}
use Rattle.span_changes.proofs.Lists.{same_seen}
use Rattle.span_changes.proofs.Spans.{absent_found, absent_stay, found_there, taken_there}
use Rattle.span_changes.proofs.setting.remove_also.Goals as goal

module _ (c : goal.After-remove) where
  place : row_place c.args.id (spans_of c.args.change.now.moved.rows) ≡ Some c.in-Some.at
  place = ap (row_place c.args.id) (sym c.rows.ensures.spans) ∙ sym c.find.ensures.place ∙ c.in-Some.is

  row : span_of c.read.result ≡ span_at (spans_of c.args.change.now.moved.rows) c.in-Some.at
  row =
      let both = c.rows-in-Some-2.ensures in
      let first = c.rows-in-Some.ensures in
      c.read.ensures.span
      ∙ ap (λ list. span_at list c.in-Some.at)
      (same_seen c.rows-in-Some-2.result.now c.rows-in-Some.result.now both.kept both.gap both.room ∙ first.spans)

pub returns-in-Some-clause-rows : goal.returns-in-Some-clause-rows
returns-in-Some-clause-rows c =
    c.remove.ensures.spans
    ∙ taken_there c.args.id (spans_of c.args.change.now.moved.rows) c.in-Some.at c.requires.distinct (place c)

pub returns-in-Some-clause-removed : goal.returns-in-Some-clause-removed
returns-in-Some-clause-removed c =
    ap spans_in c.push_within.ensures.items
    ∙ map-append span_of c.args.change.now.removed.items (c.read.result ∷ [])
    ∙ ap (λ span. spans_in c.args.change.now.removed.items ++ span ∷ []) (row c)
    ∙ ap (λ spans. spans_in c.args.change.now.removed.items ++ spans)
    (sym (found_there c.args.id (spans_of c.args.change.now.moved.rows) c.in-Some.at c.requires.distinct (place c)))

module _ (c : goal.After-begin) where
  absent : is_attached c.args.id (spans_of c.args.change.now.moved.rows) ≡ false
  absent = ap (is_attached c.args.id) (sym c.rows.ensures.spans) ∙ sym c.find.ensures.attached ∙ ap is_some c.in-None.is

pub returns-in-None-clause-rows : goal.returns-in-None-clause-rows
returns-in-None-clause-rows c = ap spans_of c.begin.ensures.rows ∙ sym (absent_stay c.args.id (spans_of c.args.change.now.moved.rows) (absent c))

pub returns-in-None-clause-removed : goal.returns-in-None-clause-removed
returns-in-None-clause-removed c =
    sym (ap (λ spans. spans_in c.args.change.now.removed.items ++ spans) (absent_found c.args.id (spans_of c.args.change.now.moved.rows) (absent c))
    ∙ append-nil (spans_in c.args.change.now.removed.items))
