-- Each row that goes is the last that passes of those that are left.
use Rattle.std.proofs.Common.{◌≡◌, ◌<◌, ◌+◌, ◌-◌, length, get_or, refl, sym, subst, ap, ◌∙◌, arith}
use Rattle.std.proofs.lemmas.List.{get_or-map, length-map}
use Rattle.edit_base.specs.declared.rows.SpanRow.{SpanRow}
use Rattle.interval_tree.specs.Answers.{orders_of}
use Rattle.span_table.specs.Table.{no_span, spans_of, without_at}
use Rattle.moved_rows.proofs.Removed.{AreLeft, left_less, left_none, left_whole, without_long}
use Rattle.moved_rows.proofs.Stands.{blank}
use Rattle.moved_rows.proofs.removing.remove_rows.Goals as goal

pub loop-at-init : goal.loop-at-init
loop-at-init c =
    let spans = spans_of c.args.moved.now.rows in
    let orders = orders_of c.args.rows.now in
    let long : length orders ≡ length c.args.rows.now = length-map c.args.rows.now (λ (row : SpanRow). row.order) in
    record {
      left = λ test is. subst (AreLeft test no_span spans orders spans) long (left_whole test no_span spans orders spans is refl);
      low = λ j within. c.requires.within j 0 (omega (arith, long, within));
      whole = λ all. refl;
      fewer = omega arith;
      gap = refl;
      room = refl;
      spare = omega arith;
      begun = c.requires.begun;
    }

pub remove_row-requires : goal.remove_row-requires
remove_row-requires c =
    let rows = c.args.rows.now in
    let k = c.loop-at.at - 1 in
    let within : k < length rows = omega (arith, c.loop-at-test.true, c.loop-at.auto.at) in
    let low = c.loop-at.invariant.low k (omega (arith, c.loop-at-test.true)) in
    subst (λ i. i < length c.loop-at.moved.rows.kept) (get_or-map (λ (row : SpanRow). row.order) rows k blank 0 within) low

pub loop-at-preserved : goal.loop-at-preserved
loop-at-preserved c =
    let spans = spans_of c.args.moved.now.rows in
    let now = c.loop-at.moved in
    let new = c.remove_row.new.moved in
    let rows = c.args.rows.now in
    let orders = orders_of rows in
    let long : length orders ≡ length rows = length-map rows (λ (row : SpanRow). row.order) in
    let k = c.loop-at.at - 1 in
    let more : c.loop-at.at ≡ k + 1 = omega (arith, c.loop-at-test.true) in
    let within : k < length rows = omega (arith, c.loop-at-test.true, c.loop-at.auto.at) in
    let order : (get_or rows k blank).order ≡ get_or orders k 0 = sym (get_or-map (λ (row : SpanRow). row.order) rows k blank 0 within) in
    let kept = c.loop-at.invariant in
    let done = c.remove_row.ensures in
    let low : get_or orders k 0 < length now.rows.kept = kept.low k (omega (arith, more)) in
    let less : length new.rows.kept + 1 ≡ length now.rows.kept =
    without_long now.rows.kept new.rows.kept (get_or orders k 0) low (done.kept ∙ ap (λ i. without_at i now.rows.kept) order) in
    record {
      left = λ test is. left_less test no_span spans orders (spans_of now.rows) (spans_of new.rows) k
          (subst (AreLeft test no_span spans orders (spans_of now.rows)) more (kept.left test is)) (omega (arith, long, within))
          (done.spans ∙ ap (λ i. without_at i (spans_of now.rows)) order);
      low = λ j below. (let rise = c.requires.rising j k below (omega (arith, long, within)) in omega (arith, rise, low, less));
      whole = λ all. absurd (omega (arith, all, within));
      fewer = omega (arith, less, kept.fewer);
      gap = done.gap ∙ kept.gap;
      room = done.room ∙ kept.room;
      spare = omega (arith, done.spare, kept.spare);
      begun = done.begun;
    }

pub returns-clause-spans : goal.returns-clause-spans
returns-clause-spans c = λ test is.
    let spans = spans_of c.args.moved.now.rows in
    let none : c.loop-at.at ≡ 0 = omega (arith, c.loop-at-test.false) in
    left_none test no_span spans (orders_of c.args.rows.now) (spans_of c.loop-at.moved.rows)
    (subst (AreLeft test no_span spans (orders_of c.args.rows.now) (spans_of c.loop-at.moved.rows)) none (c.loop-at.invariant.left test is))
