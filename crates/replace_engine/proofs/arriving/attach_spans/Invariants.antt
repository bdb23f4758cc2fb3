-- The spans so far that arrive stand behind the rows and are told of.
use Rattle.std.proofs.Common.{◌≡◌, ◌≤◌, ◌+◌, ◌++◌, take, length, vec_capacity}
use Rattle.edit_model.specs.Rows.{spans_in}
use Rattle.span_table.specs.Table.{spans_of}
use Rattle.replace_engine.specs.Arrivals.{arrivals}
use Rattle.moved_rows.specs.Moves.{IsStill}
use Rattle.replace_engine.proofs.arriving.attach_spans.Given as goal

abbrev pub invariant-loop-span : goal.invariant-loop-span
invariant-loop-span l = record {
  rows : spans_of l.moved.rows ≡ spans_of l.initial.moved.rows ++ arrivals l.cut (spans_of l.initial.moved.rows) (take l.span-index l.spans);
  added : spans_in l.added.items ≡ arrivals l.cut (spans_of l.initial.moved.rows) (take l.span-index l.spans);
  still : IsStill l.initial.moved l.moved;
  spare : l.initial.moved.rows.spare ≤ l.moved.rows.spare + length (arrivals l.cut (spans_of l.initial.moved.rows) (take l.span-index l.spans));
  kept : vec_capacity l.initial.added ≤ vec_capacity l.added;
}
