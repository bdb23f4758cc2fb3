-- Both ends go to their places, one after the other.
use Rattle.std.proofs.Common.{◌≡◌, [], List, map, length, ap, sym, ◌∙◌, arith}
use Rattle.std.proofs.Math.ListN.{set}
use Rattle.std.specs.List.{filter}
use Rattle.std.proofs.lemmas.List.{append-nil, length-map}
use Rattle.edit_model.specs.Changed.{has_moved, shifts_by, spans_effect}
use Rattle.edit_model.specs.Rows.{spans_in}
use Rattle.edit_model.specs.Selection.{at_place, with_ends}
use Rattle.edit_model.specs.State.{Span}
use Rattle.span_table.specs.Table.{seen, span_at, spans_of}
use Rattle.span_changes.proofs.Kept.{attached_by_place, both_moved, length_map}
use Rattle.span_changes.proofs.MovedLaws.{all_placed, moved_tells}
use Rattle.span_changes.proofs.Spans.{effect_from}
use Rattle.span_changes.proofs.selecting.move_ends.Goals as goal

module _ (c : goal.After-move_end-2) where
  abbrev stood : List Span
  stood = spans_of c.args.change.now.moved.rows

  begun : spans_of c.begin.new.self.rows ≡ stood
  begun = ap spans_of (c.begin.ensures.rows ∙ ap (λ moves. moves.rows) c.start.ensures.moved)

  moved : spans_of c.move_end-2.new.change.moved.rows ≡ map (with_ends c.args.start c.args.end) stood
  moved = c.move_end-2.ensures.spans
      ∙ ap (λ spans. set spans c.args.last (at_place c.args.end (span_at spans c.args.last)))
      (c.move_end.ensures.spans ∙ ap (λ spans. set spans c.args.first (at_place c.args.start (span_at spans c.args.first))) begun)
      ∙ both_moved c.args.start c.args.end stood c.args.first c.args.last c.requires.distinct c.requires.first c.requires.last

  before : c.move_end-2.new.change.moved.before ≡ stood
  before = c.move_end-2.ensures.further.before ∙ c.move_end.ensures.further.before ∙ c.begin.ensures.begun.before ∙ begun

  none_added : c.move_end-2.new.change.added.items ≡ []
  none_added = ap (λ list. list.items) (c.move_end-2.ensures.added ∙ c.move_end.ensures.added) ∙ c.start.ensures.added

pub returns-clause-rows : goal.returns-clause-rows
returns-clause-rows c = moved c

pub returns-clause-effect : goal.returns-clause-effect
returns-clause-effect c =
    let first = c.move_end.ensures.further in
    let last = c.move_end-2.ensures.further in
    let move : Span → Span = with_ends c.args.start c.args.end in
    rw (attached_by_place 0 (stood c) c.args.first c.requires.first)
    (effect_from _ _ _ (spans_effect [] (filter has_moved (shifts_by move (stood c))) [])
    (last.start ∙ first.start ∙ c.start.ensures.start) (last.old_end ∙ first.old_end ∙ c.start.ensures.old_end)
    (last.grown ∙ first.grown ∙ c.start.ensures.grown) (ap spans_in (last.removed ∙ first.removed ∙ c.start.ensures.removed))
    (moved_tells c.move_end-2.new.change.moved move [] (last.told ∙ first.told ∙ c.begin.ensures.begun.told)
    (moved c ∙ ap (map move) (sym (before c)) ∙ sym (append-nil (map move c.move_end-2.new.change.moved.before)))
    ∙ ap (λ spans. filter has_moved (shifts_by move spans)) (before c))
    (ap spans_in (none_added c)))

pub returns-clause-tells : goal.returns-clause-tells
returns-clause-tells c =
    let rows = c.move_end-2.new.change.moved.rows in
    let kept = length-map rows.kept (seen rows.gap rows.room) in
    let long = ap length (moved c) in
    let map_long = length_map (with_ends c.args.start c.args.end) (stood c) in
    let before_long = ap length (before c) in
    record {
      stood = omega (arith, kept, long, map_long, before_long, ap length (none_added c));
      placed = all_placed c.move_end-2.new.change.moved (omega (arith, kept, long, map_long, before_long));
    }
