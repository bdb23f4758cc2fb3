-- Where every value was read no field is missing.
use Rattle.serde_json.specs.View.{members_view}
use Rattle.trace_words.proofs.Values.{values_stand}
use Rattle.trace_words.proofs.reading.read_known.Goals as goal

pub returns-in-Ok : goal.returns-in-Ok
returns-in-Ok c = (values_stand c.args.op (members_view c.args.object.now.entries) c.in-Ok.command c.in-Ok.ensures.0, tt)
