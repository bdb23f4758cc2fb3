use Rattle.trace_model.proofs.PlannedItems.{plans_fitting_items, counts_back, counts_on}
use Rattle.trace_model.proofs.laws.connections_ask_for_what_fits.Goals as goal

pub returns-clause-items : goal.returns-clause-items
returns-clause-items c = plans_fitting_items

pub returns-clause-counts : goal.returns-clause-counts
returns-clause-counts c units count at within = (counts_back units count at, counts_on units count at within)
