use Rattle.edit_model.proofs.SelectionPlaces.{selects_places, leaves_no_selection}
use Rattle.edit_model.proofs.ResolvedItems.{scales_inside}
use Rattle.edit_model.proofs.selection_laws.selections_stand_where_they_are_set.Goals as goal

pub returns-clause-scales : goal.returns-clause-scales
returns-clause-scales c = scales_inside

pub returns-clause-selects : goal.returns-clause-selects
returns-clause-selects c = selects_places

pub returns-clause-deselects : goal.returns-clause-deselects
returns-clause-deselects c = leaves_no_selection
