-- What is read and not run is told of any minds.
use Rattle.replay_cli.proofs.Traces.{given-check}
use Rattle.replay_cli.proofs.run.run_bytes.Goals as goal

pub returns-in-Check-clause-ends : goal.returns-in-Check-clause-ends
returns-in-Check-clause-ends g c = given-check _ _ c.args.task c.args.is_cut c.args.bytes.now _ _ _ _ c.in-Check.is (c.check_trace.ensures.ends _)
