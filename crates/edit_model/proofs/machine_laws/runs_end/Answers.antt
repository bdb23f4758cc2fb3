use Rattle.edit_model.proofs.MachineRuns.{ends_once}
use Rattle.edit_model.proofs.Outcomes.{every_run_ends, ends-outcome, ends-outcomes}
use Rattle.edit_model.proofs.machine_laws.runs_end.Goals as goal

pub returns-clause-ends : goal.returns-clause-ends
returns-clause-ends c = every_run_ends

pub returns-clause-outcome : goal.returns-clause-outcome
returns-clause-outcome c = ends-outcome

pub returns-clause-outcomes : goal.returns-clause-outcomes
returns-clause-outcomes c = ends-outcomes

pub returns-clause-once : goal.returns-clause-once
returns-clause-once c r it old new other = ends_once r _ new other
