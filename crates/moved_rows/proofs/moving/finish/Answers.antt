-- All stand where they go, and the others stood there.
use Rattle.std.proofs.Common.{◌≡◌, get_or, length, arith, subst, ap, ◌∙◌}
use Rattle.std.proofs.lemmas.List.{get_or_default, get_or-map, length-map}
use Rattle.std.proofs.lemmas.List.Folds.{list_any_at}
use Rattle.edit_model.specs.Replaced.{moved_span}
use Rattle.edit_model.specs.Rows.{span_of, spans_in}
use Rattle.span_table.specs.Table.{spans_of}
use Rattle.moved_rows.specs.Moving.{landed_span}
use Rattle.moved_rows.proofs.Landed.{landed_apart, all_in_order}
use Rattle.moved_rows.proofs.Stands.{Puts, blank, puts_all, puts_next}
use Rattle.text_cut.specs.Halves.{joined}
use Rattle.text_cut.specs.Pulled.{has_pulled_end}
use Rattle.moved_rows.proofs.moving.finish.Goals as goal

pub finish_row-requires-clause-boundary : goal.finish_row-requires-clause-boundary
finish_row-requires-clause-boundary c = λ pulled.
    let cut = c.args.cut.now in
    let rows = c.args.touched.now in
    let j = c.loop-row.row-index in
    c.requires.boundary
    (list_any_at (has_pulled_end cut.start cut.end) (spans_in rows) j (span_of blank) (simp length-map c.loop-row-test.true)
    (ap (has_pulled_end cut.start cut.end) (get_or-map span_of rows j blank (span_of blank) c.loop-row-test.true) ∙ pulled))

pub loop-row-preserved : goal.loop-row-preserved
loop-row-preserved c =
    let cut = c.args.cut.now in
    let rows = c.args.touched.now in
    let j = c.loop-row.row-index in
    let done = c.finish_row.ensures in
    let kept = c.loop-row.invariant in
    record {
      puts = puts_next (landed_span cut.start cut.end cut.grown) (moved_span cut.start cut.end cut.grown (joined cut.text)) cut.start cut.end
          c.args.moved.now.before rows c.requires.touched (spans_of c.loop-row.moved.rows) (spans_of c.finish_row.new.moved.rows) j (get_or rows j blank)
          kept.puts c.loop-row-test.true (λ d. get_or_default rows j d blank c.loop-row-test.true) done.spans;
      gap = done.gap ∙ kept.gap;
      room = done.room ∙ kept.room;
      spare = omega (arith, done.spare, kept.spare);
      before = done.before ∙ kept.before;
      told = done.told ∙ kept.told;
    }

pub returns-clause-spans : goal.returns-clause-spans
returns-clause-spans c =
    let cut = c.args.cut.now in
    let units = joined cut.text in
    let before = c.args.moved.now.before in
    let rows = c.args.touched.now in
    let now = spans_of c.loop-row.moved.rows in
    let from = landed_span cut.start cut.end cut.grown in
    let to = moved_span cut.start cut.end cut.grown units in
    let all : c.loop-row.row-index ≡ length rows = omega (arith, c.loop-row-test.false, c.loop-row.auto.row-index-end) in
    puts_all from to cut.start cut.end before rows c.requires.touched now
    (subst (Puts from to cut.start cut.end before now rows) all c.loop-row.invariant.puts)
    (all_in_order (length units) before c.requires.over)
    (λ span apart ordered. landed_apart cut.start cut.end cut.grown units span cut.ordered apart ordered)
