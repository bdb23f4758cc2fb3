-- Of the rows so far those that a drop takes are found.
use Rattle.std.proofs.Common.{◌≡◌, ◌≤◌, take, vec_capacity}
use Rattle.std.specs.List.{filter}
use Rattle.edit_model.specs.Rows.{spans_in}
use Rattle.edit_model.specs.Selection.{is_dropped}
use Rattle.interval_tree.specs.Answers.{orders_of}
use Rattle.moved_rows.proofs.Places.{passing_to}
use Rattle.span_table.specs.Table.{spans_of}
use Rattle.span_changes.proofs.composing.find_dropped.Given as goal

abbrev pub invariant-loop-i : goal.invariant-loop-i
invariant-loop-i l = record {
  spans : spans_in l.found.items ≡ filter is_dropped (take l.i (spans_of l.rows));
  orders : orders_of l.found.items ≡ passing_to is_dropped (spans_of l.rows) l.i;
  capacity : vec_capacity l.initial.found ≤ vec_capacity l.found;
}
