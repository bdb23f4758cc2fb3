use Rattle.trace_model.proofs.Shelving.{shelf_loaded}
use Rattle.trace_model.proofs.shelf_laws.shelves_are_loaded.Goals as goal

pub returns-clause-shelved : goal.returns-clause-shelved
returns-clause-shelved c entries minds = (shelf_loaded entries minds).0

pub returns-clause-loads : goal.returns-clause-loads
returns-clause-loads c entries minds = (shelf_loaded entries minds).1
