-- The names that were asked for, and where the loaded watchers stand.
use Rattle.std.specs.Option.{option_map}
use Rattle.replay_cli.proofs.LoadedShelves.{taken-on_shelf}
use Rattle.replay_cli.proofs.SettingUp.{asks-stopped, asks-unloaded, asks-both}
use Rattle.replay_cli.proofs.run.run_request.Goals as goal

pub returns-in-Err-clause-asks : goal.returns-in-Err-clause-asks
returns-in-Err-clause-asks g c =
    asks-stopped c.args.task (option_map (λ name. name.now) c.args.settings) c.args.trace.now c.in-Err.status _ _ c.in-Err.ensures.asks

pub returns-in-Err-load_shelf-clause-asks : goal.returns-in-Err-load_shelf-clause-asks
returns-in-Err-load_shelf-clause-asks g c =
    asks-unloaded c.args.task (option_map (λ name. name.now) c.args.settings) (g.S.Store.stands c.args.store.now) c.args.trace.now c.in-Ok.settings _
    c.in-Err-load_shelf.fault _ _ c.in-Ok.ensures.told c.in-Err-load_shelf.ensures.err.1 c.in-Ok.ensures.asks

pub run_trace-requires-clause-on_shelf : goal.run_trace-requires-clause-on_shelf
run_trace-requires-clause-on_shelf g c =
    taken-on_shelf c.in-Ok.settings.watchers _ _ c.in-Ok-load_shelf.slots.items c.in-Ok-load_shelf.ensures.ok.1 c.in-Ok-load_shelf.ensures.minds

pub returns-in-Ok-load_shelf-clause-asks : goal.returns-in-Ok-load_shelf-clause-asks
returns-in-Ok-load_shelf-clause-asks g c =
    asks-both c.args.task (option_map (λ name. name.now) c.args.settings) c.args.trace.now c.in-Ok.settings c.run_trace.result _ _ _ c.in-Ok.ensures.asks
    c.run_trace.ensures.asks
