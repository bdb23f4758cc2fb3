-- A request, as the order that it stands for.
use Rattle.std.specs.Option.{option_map}
use Rattle.replay_cli.specs.declared.requests.Request.{Request}
use Rattle.replay_cli.specs.Runs.{Requested}

abbrev pub request_seen : Request → Requested
request_seen it = record { task = it.task; settings = option_map (λ name. name.now) it.settings; trace = it.trace.now }
