use Rattle.edit_model.proofs.SelectionPlaces.{marks_places}
use Rattle.edit_model.proofs.Regions.{no_region-drop}
use Rattle.edit_model.proofs.selection_laws.regions_come_and_go.Goals as goal

pub returns-clause-marks : goal.returns-clause-marks
returns-clause-marks c = marks_places

pub returns-clause-drops : goal.returns-clause-drops
returns-clause-drops c = no_region-drop
