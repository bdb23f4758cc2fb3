-- Each computes.
use Rattle.std.proofs.Common.{refl}
use Rattle.edit_model.specs.Over.{over}
use Rattle.edit_model.specs.Changed.{change_of, stepped}
use Rattle.edit_model.specs.Events.{span_callbacks}
use Rattle.edit_model.proofs.examples.tells_spans.Goals as goal

pub returns-clause-shifts : goal.returns-clause-shifts
unfolding span_callbacks change_of stepped over
returns-clause-shifts c = refl

pub returns-clause-end : goal.returns-clause-end
unfolding span_callbacks change_of stepped over
returns-clause-end c = refl

pub returns-clause-others : goal.returns-clause-others
unfolding span_callbacks change_of stepped over
returns-clause-others c = (refl, refl, refl)

pub returns-clause-removed : goal.returns-clause-removed
unfolding span_callbacks change_of stepped over
returns-clause-removed c = refl

pub returns-clause-groups : goal.returns-clause-groups
unfolding span_callbacks change_of stepped over
returns-clause-groups c = refl

pub returns-clause-priority : goal.returns-clause-priority
unfolding span_callbacks change_of stepped over
returns-clause-priority c = refl

pub returns-clause-sets : goal.returns-clause-sets
unfolding span_callbacks change_of stepped over
returns-clause-sets c = (refl, refl)

pub returns-clause-id : goal.returns-clause-id
unfolding span_callbacks change_of stepped over
returns-clause-id c = refl
