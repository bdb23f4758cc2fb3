-- Where the verdict isn't done nothing changes, whatever the number of slots.
use Rattle.std.proofs.Common.{sym, ◌∙◌, w32}
use Rattle.std.proofs.lemmas.Int.{to_z-of_z}
use Rattle.edit_model.specs.declared.steps.Step.TheVariants as step
use Rattle.edit_model.specs.Verdicts.{judged}
use Rattle.edit_model.specs.Changed.{stepped, change_of}
use Rattle.replace_engine.proofs.Done.{on_done-else}
use Rattle.replace_engine.proofs.text.SpannedText.select.Goals as goal

pub returns-in_default-clause-state : goal.returns-in_default-clause-state
returns-in_default-clause-state c = λ slots.
    let asked = step.Select c.args.start c.args.end in
    let verdict = rw (to_z-of_z w32 c.args.start c.ranges.start, to_z-of_z w32 c.args.end c.ranges.end)
    at (c.judge_selection-verdict.ensures.verdict slots) in
    sym (on_done-else (judged c.args.self.now.state slots asked) (stepped c.args.self.now.state asked) c.args.self.now.state
    (λ is. c.in_default.not-Done (verdict ∙ is)))

pub returns-in_default-clause-effect : goal.returns-in_default-clause-effect
returns-in_default-clause-effect c = λ slots.
    let asked = step.Select c.args.start c.args.end in
    let verdict = rw (to_z-of_z w32 c.args.start c.ranges.start, to_z-of_z w32 c.args.end c.ranges.end)
    at (c.judge_selection-verdict.ensures.verdict slots) in
    sym (on_done-else (judged c.args.self.now.state slots asked) (change_of c.args.self.now.state asked) c.args.self.now.effect
    (λ is. c.in_default.not-Done (verdict ∙ is)))
