-- The text isn't too long, so the spans decide.
use Rattle.std.proofs.Common.{◌≡◌, ◌∙◌, ap, pos, length, arith}
use Rattle.std.proofs.lemmas.Bool.{le-ltb}
use Rattle.edit_model.specs.Verdicts.{first_of}
use Rattle.text_cut.specs.Halves.{joined}
use Rattle.span_table.specs.Table.{spans_of}
use Rattle.span_changes.specs.Rows.{state_with}
use Rattle.replace_engine.specs.EditVerdicts.{exchange_lines}
use Rattle.text_cut.specs.Coming.{all_coming}
use Rattle.replace_engine.proofs.Tables.{verdict-cut}
use Rattle.replace_engine.proofs.judging.judge_exchange.Goals as goal

pub returns : goal.returns
returns c =
    let cut = c.new-cut.result in
    let is = c.new-cut.ensures in
    let text = joined c.args.text.now in
    let counted : cut.grown ≡ length c.args.incoming.now.units = is.grown ∙ ap length c.as_slice.ensures in
    let incoming = c.args.incoming.now in
    c.judge_spans.ensures
    ∙ verdict-cut text (joined cut.text) (spans_of c.args.rows.now) cut.start cut.end cut.grown incoming cut.brought.now (all_coming c.coming_with.result)
    is.text (is.brought ∙ c.as_slice.ensures) counted c.coming_with.ensures.coming
    (le-ltb _ _ (omega (arith, cut.short, ap length is.text, counted)))
    ∙ ap (λ s. first_of (exchange_lines (state_with text c.args.rows.now) (pos s) (pos cut.end) incoming)) is.start
    ∙ ap (λ e. first_of (exchange_lines (state_with text c.args.rows.now) (pos c.args.start) (pos e) incoming)) is.end
