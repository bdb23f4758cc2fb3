-- What a change says of an edit.
use Rattle.edit_model.specs.Changed.{Effect}
use Rattle.edit_model.specs.Rows.{spans_in}
use Rattle.span_changes.specs.declared.changes.Change.{Change}
use Rattle.moved_rows.specs.Moves.{moved_of}

-- its numbers, and the spans of its rows without their orders
abbrev pub effect_of : Change → Effect
effect_of change = record {
  start = change.start;
  old_end = change.old_end;
  grown = change.grown;
  removed = spans_in change.removed.items;
  moved = moved_of change.moved;
  added = spans_in change.added.items;
}
