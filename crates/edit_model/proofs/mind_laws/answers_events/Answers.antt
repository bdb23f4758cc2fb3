-- Each computes.
use Rattle.std.proofs.Common.{refl}
use Rattle.edit_model.specs.Minds.{loaded_mind, mind_before, mind_after, answer_after, mind_span, answer_span}
use Rattle.edit_model.proofs.mind_laws.answers_events.Goals as goal

pub returns-clause-loads : goal.returns-clause-loads
unfolding loaded_mind
returns-clause-loads c = (refl, refl, refl, refl, refl, refl, refl, refl)

pub returns-clause-loads_for_texts : goal.returns-clause-loads_for_texts
unfolding loaded_mind
returns-clause-loads_for_texts c = (refl, refl, refl, refl, refl, refl, refl, refl, refl, refl, refl)

pub returns-clause-loads_for_spans : goal.returns-clause-loads_for_spans
unfolding loaded_mind
returns-clause-loads_for_spans c = (refl, refl, refl, refl, refl, refl, refl, refl, refl)

pub returns-clause-pair : goal.returns-clause-pair
unfolding mind_after answer_after
returns-clause-pair c = (refl, refl, refl, refl, refl, refl, refl)

pub returns-clause-swap : goal.returns-clause-swap
unfolding mind_after answer_after
returns-clause-swap c = (refl, refl, refl, refl, refl, refl, refl, refl, refl, refl)

pub returns-clause-limit : goal.returns-clause-limit
unfolding mind_after answer_after
returns-clause-limit c = (refl, refl, refl, refl, refl, refl)

pub returns-clause-squeeze : goal.returns-clause-squeeze
unfolding mind_after answer_after
returns-clause-squeeze c = (refl, refl, refl, refl, refl, refl, refl, refl, refl, refl, refl)

pub returns-clause-paint : goal.returns-clause-paint
unfolding mind_after answer_after answer_span
returns-clause-paint c = (refl, refl, refl, refl, refl, refl)

pub returns-clause-follow : goal.returns-clause-follow
unfolding answer_after mind_span answer_span
returns-clause-follow c = (refl, refl, refl, refl, refl, refl, refl, refl)

pub returns-clause-echo : goal.returns-clause-echo
unfolding mind_before mind_after answer_after
returns-clause-echo c = (refl, refl, refl, refl, refl)
