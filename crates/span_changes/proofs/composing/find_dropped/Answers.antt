-- No more rows are found than were read.
use Rattle.std.proofs.Common.{◌∙◌, ap, length, arith}
use Rattle.std.proofs.lemmas.List.{length-map}
use Rattle.edit_base.specs.declared.rows.SpanRow.{SpanRow}
use Rattle.edit_model.specs.Selection.{is_dropped}
use Rattle.moved_rows.proofs.Places.{passing_few}
use Rattle.span_table.specs.Table.{span_at, spans_of}
use Rattle.span_changes.proofs.Found.{found_orders, found_spans}
use Rattle.span_changes.proofs.Lists.{length-spans_of, same_seen}
use Rattle.span_changes.proofs.composing.find_dropped.Goals as goal

pub push_dropped-requires : goal.push_dropped-requires
push_dropped-requires c =
    omega (
      arith,
      ap length c.loop-i.invariant.orders,
      passing_few is_dropped (spans_of c.args.rows.now) c.loop-i.i,
      length-map c.loop-i.found.items (λ (row : SpanRow). row.order),
      ap length c.rows.ensures.kept,
      c.count-i-end.ensures.count,
      c.loop-i-test.true,
      c.loop-i.invariant.capacity,
      c.loop-i.found.ok.0,
      c.requires.room,
    )

pub loop-i-preserved : goal.loop-i-preserved
loop-i-preserved c =
    let spans = spans_of c.args.rows.now in
    let all = length-spans_of c.args.rows.now in
    let here = ap length c.rows.ensures.kept in
    let same = same_seen c.rows-in-loop-i.result.now c.args.rows.now
    c.rows-in-loop-i.ensures.kept c.rows-in-loop-i.ensures.gap c.rows-in-loop-i.ensures.room in
    let read = c.read.ensures.span ∙ ap (λ list. span_at list c.loop-i.i) same in
    record {
      spans = found_spans is_dropped spans c.loop-i.i (omega arith) c.loop-i.found.items c.push_dropped.new.found.items c.read.result read
          c.push_dropped.ensures.found c.loop-i.invariant.spans;
      orders = found_orders is_dropped spans c.loop-i.i (omega arith) c.loop-i.found.items c.push_dropped.new.found.items c.read.result read
          c.push_dropped.ensures.found c.read.ensures.order c.loop-i.invariant.orders;
      capacity = omega (arith, c.push_dropped.ensures.capacity, c.loop-i.invariant.capacity);
    }
