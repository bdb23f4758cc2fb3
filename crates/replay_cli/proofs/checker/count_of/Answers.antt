-- What a line counts, by what was read.
use Rattle.replay_cli.proofs.CheckRuns.{blank-none, command-one, faulty-ends}
use Rattle.replay_cli.proofs.checker.count_of.Goals as goal

pub returns-in-Ok-Blank-clause-gives : goal.returns-in-Ok-Blank-clause-gives
returns-in-Ok-Blank-clause-gives c = blank-none c.args.number c.args.line.now (rw c.in-Ok-Blank.field-0-is at c.in-Ok-Blank.ensures)

pub returns-in-Ok-Command-clause-gives : goal.returns-in-Ok-Command-clause-gives
returns-in-Ok-Command-clause-gives c =
    command-one c.args.number c.args.line.now c.in-Ok-Command.field-0-0 (rw c.in-Ok-Command.field-0-is at c.in-Ok-Command.ensures)

pub returns-clause-gives : goal.returns-clause-gives
returns-clause-gives c = faulty-ends c.args.number c.args.line.now c.in-Ok-Faulty.kind (rw c.in-Ok-Faulty.field-0-is at c.in-Ok-Faulty.ensures)
