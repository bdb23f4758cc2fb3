-- The names differ.
use Rattle.std.specs.List.{IsDistinct}
use Rattle.std.proofs.Common.{rules}
use Rattle.trace_words.proofs.table.op_table.Goals as goal

pub returns-clause-names : goal.returns-clause-names
unfolding IsDistinct
returns-clause-names c = search rules
