-- The minds of the shelf that was made are blank before the run, and some behind it.
use Rattle.std.proofs.Common.{map}
use Rattle.std.specs.Prelude.{string_bytes}
use Rattle.replay_cli.specs.Runs.{requested_by, blank_shelf}
use Rattle.replay_cli.proofs.SettingUp.{leaves-some, complete-of}
use Rattle.replay_cli.proofs.shelf.run_on_made_shelf.Goals as goal

pub returns-clause-leaves : goal.returns-clause-leaves
returns-clause-leaves g c =
    leaves-some (requested_by (map string_bytes c.args.words.now)) (g.S.Store.stands c.args.store.now) _ blank_shelf c.run.result _ _ _ _
    c.run.ensures.leaves c.say_blank.ensures

pub returns-clause-complete : goal.returns-clause-complete
returns-clause-complete g c =
    complete-of (requested_by (map string_bytes c.args.words.now)) (g.S.Store.stands c.args.store.now) _ blank_shelf _ c.say_blank.ensures
    c.run.ensures.complete
