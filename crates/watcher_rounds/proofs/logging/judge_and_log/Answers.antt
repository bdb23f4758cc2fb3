use Rattle.std.proofs.Common.{◌≡◌, ◌∙◌, ◌++◌, ◌∷◌, [], length, ap, rules}
use Rattle.edit_model.specs.Verdicts.{judged}
use Rattle.edit_model.specs.Log.{entry_of, logged}
use Rattle.edit_model.specs.Filtered.{filtered_step}
use Rattle.edit_model.specs.Machine.{edit_entry}
use Rattle.watcher_rounds.proofs.Judgements.{logged-let_in}
use Rattle.watcher_rounds.proofs.logging.judge_and_log.Goals as goal

pub returns-clause-log : goal.returns-clause-log
unfolding edit_entry
returns-clause-log c =
    let a = c.args in
    let found = logged-let_in a.text.now.state (length a.round.now.slots.now.items) a.round.now.depth a.depth a.begun c.in_ok-brought.brought
    (filtered_step a.round.now.filters.now a.text.now.state a.step.now) c.in_ok-brought.ensures.step c.requires.begins in
    let is : c.judge-logged.result ≡ logged a.text.now.state c.in_ok-brought.brought
    (judged a.text.now.state (length a.round.now.slots.now.items) c.in_ok-brought.brought) = search rules in
    c.in_ok-push.ensures.items ∙ ap (λ it. a.log.now.items ++ it ∷ []) (c.entry_of.ensures ∙ ap (λ it. entry_of a.depth a.step.now it) (is ∙ found))
