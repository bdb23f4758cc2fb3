use Rattle.std.proofs.Common.{◌≡◌, ◌++◌, take}
use Rattle.std.specs.List.{flat_map}
use Rattle.trace_model.specs.Printed.{span_line}
use Rattle.edit_model.specs.Rows.{spans_in}
use Rattle.editor_core.proofs.queries.print_rows.Given as goal

abbrev pub invariant-loop-row : goal.invariant-loop-row
invariant-loop-row l = l.out.items ≡ l.fn.out.items ++ flat_map span_line (spans_in (take l.row-index l.rows))
