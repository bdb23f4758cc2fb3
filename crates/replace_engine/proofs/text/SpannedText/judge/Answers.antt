-- The state is that of the units and rows.
use Rattle.std.proofs.Common.{◌≡◌, ap, refl, ◌∙◌, rules}
use Rattle.text_cut.specs.Halves.{joined}
use Rattle.span_changes.specs.Rows.{state_with}
use Rattle.replace_engine.proofs.text.SpannedText.judge.Goals as goal

pub returns-in-Replace : goal.returns-in-Replace
returns-in-Replace c =
    let state : state_with (joined c.halves_of.result) c.index.result.now ≡ c.args.self.now.state =
    rw (c.halves_of.ensures.joined, c.index.ensures.spans, ap (λ seen. seen.state.units) c.self.view_is) refl in
    rw (← state) (c.judge_replace.ensures.verdict c.args.slots ∙ search rules)
