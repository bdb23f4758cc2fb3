-- Without memory for the shelf nothing was written.
use Rattle.std.proofs.Common.{ap}
use Rattle.replay_cli.proofs.SettingUp.{leaves-nothing}
use Rattle.replay_cli.proofs.shelf.run_on_blank_shelf.Goals as goal

pub returns-in-Err-clause-leaves : goal.returns-in-Err-clause-leaves
returns-in-Err-clause-leaves g c = leaves-nothing _ _ _ _ (ap g.K.Sink.written c.in-Err.ensures.sink_kept)
