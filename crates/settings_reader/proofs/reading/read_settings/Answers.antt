-- The settings of a table fit their limits.
use Rattle.toml.specs.View.{table_view}
use Rattle.settings_reader.proofs.Fits.{given_fits}
use Rattle.settings_reader.proofs.reading.read_settings.Goals as goal

pub returns-clause-fits : goal.returns-clause-fits
returns-clause-fits c = given_fits (table_view c.in_ok-table.table) c.settings_of.result c.settings_of.ensures
