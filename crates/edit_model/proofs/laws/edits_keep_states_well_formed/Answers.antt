use Rattle.edit_model.proofs.EditedStates.{well_formed-after, seated-after}
use Rattle.edit_model.proofs.Watchers.{few-watchers}
use Rattle.edit_model.proofs.laws.edits_keep_states_well_formed.Goals as goal

pub returns-clause-well_formed : goal.returns-clause-well_formed
returns-clause-well_formed c = well_formed-after

pub returns-clause-seats : goal.returns-clause-seats
returns-clause-seats c = seated-after

pub returns-clause-few : goal.returns-clause-few
returns-clause-few c = few-watchers
