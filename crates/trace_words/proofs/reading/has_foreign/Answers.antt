-- A key that the operation doesn't have.
use Rattle.std.proofs.Common.{◌∙◌}
use Rattle.trace_model.specs.Operations.{operation}
use Rattle.trace_words.proofs.Rows.{list_any-foreign}
use Rattle.trace_words.proofs.reading.has_foreign.Goals as goal

pub returns : goal.returns
returns c =
    c.has_other.ensures
    ∙ list_any-foreign c.args.object.now.entries c.op_fields.result.now (operation c.args.op).fields c.op_fields.ensures
