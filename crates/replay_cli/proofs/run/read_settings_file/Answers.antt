-- What the settings' file tells, and what is asked for.
use Rattle.replay_cli.proofs.SettingUp.{told-over, asks-settled, asks-failed, asks-wanting}
use Rattle.replay_cli.proofs.run.read_settings_file.Goals as goal

pub returns-in-Ok-Whole-clause-asks : goal.returns-in-Ok-Whole-clause-asks
returns-in-Ok-Whole-clause-asks g c =
    asks-settled c.args.name.now c.settings_of.result _ _ _ c.settings_of.ensures.settles c.in-Ok-Whole.ensures.asks

pub returns-in-Ok-Over-clause-told : goal.returns-in-Ok-Over-clause-told
returns-in-Ok-Over-clause-told g c =
    let gains = rw c.in-Ok-Over.field-0-is at c.in-Ok-Over.ensures.gains in
    told-over (g.S.Store.stands c.args.store.now c.args.name.now) gains.0 _ gains.3

pub returns-in-Err-Failed-clause-asks : goal.returns-in-Err-Failed-clause-asks
returns-in-Err-Failed-clause-asks g c = asks-failed c.args.name.now _ _ (rw c.in-Err-Failed.field-0-is at c.in-Err-Failed.ensures.asks)

pub returns-clause-asks : goal.returns-clause-asks
returns-clause-asks g c = asks-wanting c.args.name.now _ _ (rw c.in-Err-NoMemory.field-0-is at c.in-Err-NoMemory.ensures.asks)
