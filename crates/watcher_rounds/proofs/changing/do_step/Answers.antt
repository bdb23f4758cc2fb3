-- A mark that is done lies in the text; the number of slots is the caller's.
use Rattle.std.proofs.Common.{◌≡◌, subst}
use Rattle.edit_base.specs.declared.verdicts.Verdict.TheVariants.{Done}
use Rattle.edit_model.specs.declared.steps.Step.{Step}
use Rattle.edit_model.specs.Verdicts.{judged}
use Rattle.watcher_rounds.proofs.Judgements.{marked_within}
use Rattle.watcher_rounds.proofs.changing.do_step.Goals as goal

pub mark_composing-requires-clause-within : goal.mark_composing-requires-clause-within
mark_composing-requires-clause-within g c =
    let state = c.args.text.now.state in
    marked_within state c.args.slots c.in-Mark.start c.in-Mark.end
    (subst (λ (asked : Step). judged state c.args.slots asked ≡ Done) c.in-Mark.is c.requires.done)

pub returns-in_ok-replace-in-Replace-clause-seated : goal.returns-in_ok-replace-in-Replace-clause-seated
returns-in_ok-replace-in-Replace-clause-seated g c = c.replace.ensures.seated c.args.slots

pub returns-in-Remove-clause-seated : goal.returns-in-Remove-clause-seated
returns-in-Remove-clause-seated g c = c.remove_span.ensures.seated c.args.slots

pub returns-in_ok-select-in-Select-clause-seated : goal.returns-in_ok-select-in-Select-clause-seated
returns-in_ok-select-in-Select-clause-seated g c = c.select.ensures.seated c.args.slots

pub returns-in-Deselect-clause-seated : goal.returns-in-Deselect-clause-seated
returns-in-Deselect-clause-seated g c = c.deselect.ensures.seated c.args.slots

pub returns-in_ok-drop_composing-in-Drop-clause-seated : goal.returns-in_ok-drop_composing-in-Drop-clause-seated
returns-in_ok-drop_composing-in-Drop-clause-seated g c = c.drop_composing.ensures.seated c.args.slots

pub returns-in_ok-mark_composing-in-Mark-clause-seated : goal.returns-in_ok-mark_composing-in-Mark-clause-seated
returns-in_ok-mark_composing-in-Mark-clause-seated g c = c.mark_composing.ensures.seated c.args.slots
