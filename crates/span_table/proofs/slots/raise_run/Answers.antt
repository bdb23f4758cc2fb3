-- The loop passed all of them.
use Rattle.std.proofs.Common.{arith}
use Rattle.span_table.proofs.Runs.{written_all}
use Rattle.span_table.proofs.slots.raise_run.Goals as goal

pub returns : goal.returns
returns c = written_all c.args.run.now c.loop-slot.invariant (omega arith)
