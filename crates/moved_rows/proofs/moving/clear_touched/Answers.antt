-- All are cleared, and the others were clear.
use Rattle.std.proofs.Common.{◌≡◌, length, arith, subst}
use Rattle.edit_model.specs.State.{Span}
use Rattle.span_table.specs.Table.{spans_of}
use Rattle.moved_rows.specs.Moving.{cleared_span}
use Rattle.moved_rows.proofs.Landed.{cleared_apart}
use Rattle.moved_rows.proofs.Stands.{Puts, puts_all}
use Rattle.moved_rows.proofs.moving.clear_touched.Goals as goal

pub returns-clause-spans : goal.returns-clause-spans
returns-clause-spans c =
    let s = c.args.start in
    let e = c.args.end in
    let before = c.args.moved.now.before in
    let rows = c.args.touched.now in
    let now = spans_of c.loop-row.moved.rows in
    let all : c.loop-row.row-index ≡ length rows = omega (arith, c.loop-row-test.false, c.loop-row.auto.row-index-end) in
    puts_all (λ (span : Span). span) (cleared_span s e) s e before rows c.requires.touched now
    (subst (Puts (λ (span : Span). span) (cleared_span s e) s e before now rows) all c.loop-row.invariant.puts)
    c.requires.ordered (λ span apart ordered. cleared_apart s e span apart ordered)
