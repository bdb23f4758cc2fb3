-- A field that isn't there.
use Rattle.std.proofs.Common.{◌∙◌}
use Rattle.serde_json.specs.View.{members_view}
use Rattle.trace_model.specs.Operations.{operation}
use Rattle.trace_words.proofs.Rows.{list_any-missing}
use Rattle.trace_words.proofs.reading.lacks_one.Goals as goal

pub returns : goal.returns
returns c =
    c.has_absent.ensures
    ∙ list_any-missing (members_view c.args.object.now.entries) c.op_fields.result.now (operation c.args.op).fields c.op_fields.ensures
