use Rattle.trace_model.proofs.Readings.{fits-read_command}
use Rattle.trace_model.proofs.laws.commands_bring_what_fits.Goals as goal

pub returns : goal.returns
returns c = fits-read_command
