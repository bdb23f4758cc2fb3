-- What an iterator over moved rows has left.
use Rattle.std.specs.Prelude.{List}
use Rattle.edit_model.specs.Changed.{Shift}
use Rattle.moved_rows.specs.declared.moved.MovedRowsIter.{MovedRowsIter}
use Rattle.moved_rows.specs.Moves.{told_from}

-- how the rows moved that it yields next
abbrev pub shifts_left : MovedRowsIter → List Shift
shifts_left iter = told_from iter.moved.now iter.place
