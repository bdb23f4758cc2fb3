-- Ids are distinct, so the row that is set is the one with the id.
use Rattle.std.proofs.Common.{◌≡◌, ◌<◌, [], ◌∷◌, length, ap, sym, ◌∙◌, arith}
use Rattle.std.proofs.Math.ListN.{set}
use Rattle.std.proofs.lemmas.List.{length-map, length-set}
use Rattle.edit_model.specs.Changed.{spans_effect}
use Rattle.edit_model.specs.Rows.{span_of, spans_in}
use Rattle.span_table.specs.Table.{seen, span_at, spans_of}
use Rattle.span_changes.proofs.Spans.{at_place, effect_from, set_there, set_effect_there}
use Rattle.span_changes.proofs.MovedLaws.{all_placed, set_tells}
use Rattle.span_changes.proofs.setting.replace_row.Goals as goal

pub set-requires-clause-id : goal.set-requires-clause-id
set-requires-clause-id c =
    rw (ap spans_of (c.begin.ensures.rows ∙ ap (λ moves. moves.rows) c.start.ensures.moved))
    (sym (at_place c.args.row.now.id (spans_of c.args.change.now.moved.rows) c.args.at c.requires.at).id_is)

module _ (c : goal.After-set) where
  begun : spans_of c.begin.new.self.rows ≡ spans_of c.args.change.now.moved.rows
  begun = ap spans_of (c.begin.ensures.rows ∙ ap (λ moves. moves.rows) c.start.ensures.moved)

  before : c.set.new.self.before ≡ spans_of c.args.change.now.moved.rows
  before = c.set.ensures.before ∙ c.begin.ensures.begun.before ∙ begun

  set_is : spans_of c.set.new.self.rows ≡ set (spans_of c.args.change.now.moved.rows) c.args.at (span_of c.args.row.now)
  set_is = c.set.ensures.spans ∙ ap (λ spans. set spans c.args.at (span_of c.args.row.now)) begun

  within : c.args.at < length c.set.new.self.before
  within = rw before (at_place c.args.row.now.id (spans_of c.args.change.now.moved.rows) c.args.at c.requires.at).within

pub returns-clause-rows : goal.returns-clause-rows
returns-clause-rows c = set_is c ∙ set_there (span_of c.args.row.now) (spans_of c.args.change.now.moved.rows) c.args.at c.requires.distinct c.requires.at

pub returns-clause-effect : goal.returns-clause-effect
returns-clause-effect c =
    effect_from _ _ _ (spans_effect [] (record { from = span_at c.set.new.self.before c.args.at; to = span_of c.args.row.now } ∷ []) [])
    c.start.ensures.start c.start.ensures.old_end c.start.ensures.grown (ap spans_in c.start.ensures.removed)
    (set_tells c.set.new.self c.args.at (span_of c.args.row.now) (within c) c.set.ensures.told
    (set_is c ∙ ap (λ spans. set spans c.args.at (span_of c.args.row.now)) (sym (before c))))
    (ap spans_in c.start.ensures.added)
    ∙ ap (λ spans. spans_effect [] (record { from = span_at spans c.args.at; to = span_of c.args.row.now } ∷ []) []) (before c)
    ∙ sym (set_effect_there (span_of c.args.row.now) (spans_of c.args.change.now.moved.rows) c.args.at c.requires.distinct c.requires.at [])

pub returns-clause-tells : goal.returns-clause-tells
returns-clause-tells c =
    let kept = length-map c.set.new.self.rows.kept (seen c.set.new.self.rows.gap c.set.new.self.rows.room) in
    let long = ap length (set_is c) in
    let set_long = length-set (spans_of c.args.change.now.moved.rows) c.args.at (span_of c.args.row.now) in
    let before_long = ap length (before c) in
    record {
      stood = omega (arith, kept, long, set_long, before_long, ap length c.start.ensures.added);
      placed = all_placed c.set.new.self (omega (arith, kept, long, set_long, before_long));
    }
