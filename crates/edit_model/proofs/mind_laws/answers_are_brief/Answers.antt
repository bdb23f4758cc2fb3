use Rattle.edit_model.specs.Minds.{answer_after, answer_span}
use Rattle.edit_model.proofs.Answering.{no-edits, one-said, one-if, brief-kind}
use Rattle.edit_model.proofs.mind_laws.answers_are_brief.Goals as goal

pub returns-clause-text : goal.returns-clause-text
unfolding answer_after
returns-clause-text c mind event units = one-said mind.loaded _ _ ((brief-kind mind.kind).after mind event units) no-edits

pub returns-clause-spans : goal.returns-clause-spans
unfolding answer_span
returns-clause-spans c mind event units = one-if mind.loaded _ ((brief-kind mind.kind).span mind event units)
