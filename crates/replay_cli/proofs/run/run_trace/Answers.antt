-- What the trace gives, where the store tells it.
use Rattle.trace_model.specs.Output.{setup}
use Rattle.settings_reader.specs.Seen.{as_settings}
use Rattle.replay_cli.proofs.Traces.{gained-alone, leaves-whole, leaves-over}
use Rattle.replay_cli.proofs.run.run_trace.Goals as goal

pub returns-in-Ok-Whole-clause-leaves : goal.returns-in-Ok-Whole-clause-leaves
returns-in-Ok-Whole-clause-leaves g c =
    let gains = rw c.in-Ok-Whole.field-0-is at c.in-Ok-Whole.ensures.gains in
    leaves-whole (setup (as_settings c.args.settings) c.args.slots.items) _ c.args.task (g.S.Store.stands c.args.store.now c.args.trace.now) gains.0
    c.as_slice.result.now c.run_bytes.result _ _ _ _ gains.2
    (gained-alone _ _ _ _ c.as_slice.ensures.value gains.1 c.new-bytes.ensures.items) gains.3 c.run_bytes.ensures.cut c.run_bytes.ensures.ends

pub returns-in-Ok-Over-clause-leaves : goal.returns-in-Ok-Over-clause-leaves
returns-in-Ok-Over-clause-leaves g c =
    let gains = rw c.in-Ok-Over.field-0-is at c.in-Ok-Over.ensures.gains in
    leaves-over (setup (as_settings c.args.settings) c.args.slots.items) _ c.args.task (g.S.Store.stands c.args.store.now c.args.trace.now) gains.0
    c.as_slice-in-Ok-Over.result.now c.run_bytes-in-Ok-Over.result _ _ _ _
    (gained-alone _ _ _ _ c.as_slice-in-Ok-Over.ensures.value gains.1 c.new-bytes.ensures.items) gains.3 c.run_bytes-in-Ok-Over.ensures.whole
    c.run_bytes-in-Ok-Over.ensures.ends
