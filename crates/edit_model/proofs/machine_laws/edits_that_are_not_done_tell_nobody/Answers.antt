use Rattle.std.proofs.Common.{refl, subst}
use Rattle.edit_model.specs.MachineLaws.{OnlyLogs}
use Rattle.edit_model.specs.Machine.{Scene, resolved, edit_entry}
use Rattle.edit_model.proofs.MachineRuns.{ends_once, ends_logged}
use Rattle.edit_model.proofs.machine_laws.edits_that_are_not_done_tell_nobody.Goals as goal

pub returns-clause-commands : goal.returns-clause-commands
returns-clause-commands c r it old new other ends =
    subst (λ (s : Scene). OnlyLogs (edit_entry r 0 (resolved old.state it) old.state old.begun) old s) (ends_once r _ _ new (ends_logged r it old other) ends)
    (record { state = refl; minds = refl; effects = refl; log = refl })
