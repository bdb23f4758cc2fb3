-- The change tells of the rows that stood without the emptied ones, by where the cut takes them.
use Rattle.std.proofs.Common.{◌≡◌, ◌+◌, ◌++◌, not, true, map, length, ap, subst, sym, ◌∙◌, arith}
use Rattle.std.specs.List.{All}
use Rattle.std.proofs.lemmas.List.{length-map, length-append}
use Rattle.std.proofs.lemmas.List.Elements.{All-filter}
use Rattle.edit_model.specs.Changed.{replaced_effect}
use Rattle.edit_model.specs.Replaced.{emptied_spans, is_emptied, kept_spans, moved_span}
use Rattle.edit_model.specs.Rows.{span_of}
use Rattle.interval_tree.specs.Answers.{IsForward}
use Rattle.moved_rows.specs.Moving.{IsSpanWithin}
use Rattle.moved_rows.proofs.Landed.{all_within}
use Rattle.span_table.specs.Table.{spans_of}
use Rattle.text_cut.specs.Coming.{all_coming}
use Rattle.text_cut.specs.Halves.{joined}
use Rattle.replace_engine.specs.Arrivals.{arrivals}
use Rattle.replace_engine.specs.Exchange.{comes, stays}
use Rattle.span_changes.specs.Rows.{state_with}
use Rattle.replace_engine.specs.Moved.{is_plain}
use Rattle.replace_engine.proofs.Cuts.{cut_comes, cut_shifts, cut_stays}
use Rattle.replace_engine.proofs.MovingNone.{plain_start}
use Rattle.span_changes.proofs.Lists.{length-spans_of}
use Rattle.span_changes.proofs.MovedLaws.{all_placed, moved_tells}
use Rattle.span_changes.proofs.Spans.{effect_from}
use Rattle.replace_engine.proofs.exchanging.exchange_spans.Given as given
use Rattle.replace_engine.proofs.exchanging.exchange_spans.Goals as goal

module _ (g : given.Over) (c : goal.After-attach_coming g) where
  old : spans_of c.bring_gap.new.self.rows ≡ spans_of c.args.change.now.moved.rows
  old = c.bring_gap.ensures.spans ∙ ap (λ moves. spans_of moves.rows) c.start.ensures.moved

  kept : spans_of c.drop_emptied.new.moved.rows
      ≡ kept_spans c.args.asked.now.start c.args.asked.now.end (length c.args.asked.now.brought.now) (spans_of c.args.change.now.moved.rows)
  kept = c.drop_emptied.ensures.kept ∙ ap (kept_spans c.args.asked.now.start c.args.asked.now.end (length c.args.asked.now.brought.now)) old

  before : c.attach_coming.new.moved.before ≡ spans_of c.drop_emptied.new.moved.rows
  before = c.attach_coming.ensures.still.before ∙ c.move_spans.ensures.before

  stays_long : length c.move_spans.new.moved.rows.kept ≡ length c.drop_emptied.new.moved.rows.kept
  stays_long =
      let cut = c.new-cut.result in
      omega (
        arith,
        ap length c.move_spans.ensures.spans,
        length-map (spans_of c.drop_emptied.new.moved.rows) (moved_span cut.start cut.end cut.grown (joined cut.text)),
        length-spans_of c.move_spans.new.moved.rows,
        length-spans_of c.drop_emptied.new.moved.rows,
      )

  all_long : length c.attach_coming.new.moved.rows.kept
      ≡ length c.move_spans.new.moved.rows.kept
      + length (arrivals c.new-cut.result (spans_of c.move_spans.new.moved.rows) (all_coming c.args.asked.now.coming))
  all_long =
      omega (
        arith,
        ap length c.attach_coming.ensures.rows,
        length-append (spans_of c.move_spans.new.moved.rows)
            (arrivals c.new-cut.result (spans_of c.move_spans.new.moved.rows) (all_coming c.args.asked.now.coming)),
        length-spans_of c.attach_coming.new.moved.rows,
        length-spans_of c.move_spans.new.moved.rows,
      )

-- no span ends before it starts
pub drop_emptied-requires-clause-forward : goal.drop_emptied-requires-clause-forward
drop_emptied-requires-clause-forward g c =
    let asked = c.args.asked.now in
    let spans = spans_of c.args.change.now.moved.rows in
    let within = all_within (joined asked.text) spans c.requires.formed.spans in
    subst (All IsForward) (sym (c.bring_gap.ensures.spans ∙ ap (λ moves. spans_of moves.rows) c.start.ensures.moved))
    (λ k d below. (within k d below).ordered)

-- what stands before the rows move lies in the text
pub move_spans-requires-clause-over : goal.move_spans-requires-clause-over
move_spans-requires-clause-over g c =
    let asked = c.args.asked.now in
    let spans = spans_of c.args.change.now.moved.rows in
    let n = length asked.brought.now in
    let old = c.bring_gap.ensures.spans ∙ ap (λ moves. spans_of moves.rows) c.start.ensures.moved in
    let kept = c.drop_emptied.ensures.kept ∙ ap (kept_spans asked.start asked.end n) old in
    rw (c.new-cut.ensures.text)
    (subst (All (IsSpanWithin (length (joined asked.text)))) (sym kept)
    (All-filter (λ span. not (is_emptied asked.start asked.end n span)) (IsSpanWithin (length (joined asked.text))) spans
    (all_within (joined asked.text) spans c.requires.formed.spans)))

-- no more stand then than may
pub attach_coming-requires-clause-few : goal.attach_coming-requires-clause-few
attach_coming-requires-clause-few g c =
    let asked = c.args.asked.now in
    let cut = c.new-cut.result in
    let is = c.new-cut.ensures in
    let spans = spans_of c.args.change.now.moved.rows in
    let old = c.bring_gap.ensures.spans ∙ ap (λ moves. spans_of moves.rows) c.start.ensures.moved in
    let kept = c.drop_emptied.ensures.kept ∙ ap (kept_spans asked.start asked.end (length asked.brought.now)) old in
    let stayed = c.move_spans.ensures.spans ∙ cut_stays asked spans cut is.text is.brought is.start is.end is.grown _ kept in
    omega (
      arith,
      c.requires.few,
      ap length stayed,
      ap length (cut_comes asked spans cut is.text is.brought is.start is.end is.grown _ stayed),
      length-append (stays asked spans) (comes asked spans),
      length-spans_of c.move_spans.new.moved.rows,
    )

pub returns-clause-left : goal.returns-clause-left
returns-clause-left g c =
    let asked = c.args.asked.now in
    let cut = c.new-cut.result in
    let is = c.new-cut.ensures in
    let spans = spans_of c.args.change.now.moved.rows in
    let stayed = c.move_spans.ensures.spans ∙ cut_stays asked spans cut is.text is.brought is.start is.end is.grown _ (kept g c) in
    omega (
      arith,
      ap (λ moves. moves.rows.spare) c.start.ensures.moved,
      c.bring_gap.ensures.spare,
      c.drop_emptied.ensures.spare,
      c.move_spans.ensures.spare,
      c.attach_coming.ensures.spare,
      ap length (cut_comes asked spans cut is.text is.brought is.start is.end is.grown _ stayed),
    )

pub returns-clause-count : goal.returns-clause-count
returns-clause-count g c =
    let asked = c.args.asked.now in
    let cut = c.new-cut.result in
    let is = c.new-cut.ensures in
    let spans = spans_of c.args.change.now.moved.rows in
    let stayed = c.move_spans.ensures.spans ∙ cut_stays asked spans cut is.text is.brought is.start is.end is.grown _ (kept g c) in
    omega (
      arith,
      ap (λ moves. length moves.rows.kept) c.start.ensures.moved,
      c.bring_gap.ensures.count,
      c.drop_emptied.ensures.fewer,
      stays_long g c,
      all_long g c,
      ap length (cut_comes asked spans cut is.text is.brought is.start is.end is.grown _ stayed),
    )

pub returns-clause-effect : goal.returns-clause-effect
returns-clause-effect g c =
    let asked = c.args.asked.now in
    let cut = c.new-cut.result in
    let is = c.new-cut.ensures in
    let spans = spans_of c.args.change.now.moved.rows in
    let stayed = c.move_spans.ensures.spans ∙ cut_stays asked spans cut is.text is.brought is.start is.end is.grown _ (kept g c) in
    effect_from _ _ _ (replaced_effect (state_with (joined asked.text) c.args.change.now.moved.rows) asked.start asked.end
    (length asked.brought.now) (comes asked spans))
    c.start.ensures.start c.start.ensures.old_end c.start.ensures.grown
    (c.drop_emptied.ensures.removed ∙ ap (emptied_spans asked.start asked.end (length asked.brought.now)) (old g c))
    (moved_tells c.attach_coming.new.moved (moved_span cut.start cut.end cut.grown (joined cut.text)) _
    (c.attach_coming.ensures.still.told ∙ c.move_spans.ensures.told)
    (c.attach_coming.ensures.rows
    ∙ ap (λ list. list ++ arrivals cut (spans_of c.move_spans.new.moved.rows) (all_coming asked.coming))
    (c.move_spans.ensures.spans ∙ ap (map (moved_span cut.start cut.end cut.grown (joined cut.text))) (sym (before g c))))
    ∙ cut_shifts asked spans cut is.text is.brought is.start is.end is.grown _ (before g c ∙ kept g c))
    (c.attach_coming.ensures.added ∙ cut_comes asked spans cut is.text is.brought is.start is.end is.grown _ stayed)

-- where the gap alone moves all ends, no range goes and no row is read
pub returns-clause-idle : goal.returns-clause-idle
returns-clause-idle g c = λ plain.
    let asked = c.args.asked.now in
    let same : asked.start ≡ asked.end = plain_start asked.start asked.end _ plain in
    let rows = ap (λ moves. spans_of moves.rows) (c.drop_emptied.ensures.none_cut same) ∙ old g c in
    let stays : is_plain asked.start asked.end c.len.result (spans_of c.drop_emptied.new.moved.rows) ≡ true = rw (rows, c.len.ensures.len) plain in
    c.touch.ensures.idle stays ∙ c.drop_emptied.ensures.idle same

pub returns-clause-tells : goal.returns-clause-tells
returns-clause-tells g c =
    let before_long = ap length (before g c) in
    let stood = length-spans_of c.drop_emptied.new.moved.rows in
    record {
      stood = omega (
        arith,
        before_long,
        stood,
        stays_long g c,
        all_long g c,
        ap length c.attach_coming.ensures.added,
        length-map c.attach_coming.new.added.items span_of,
      );
      placed = all_placed c.attach_coming.new.moved (omega (arith, before_long, stood, stays_long g c, all_long g c));
    }
