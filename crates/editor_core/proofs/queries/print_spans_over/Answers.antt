-- No more rows are found than are attached.
use Rattle.std.proofs.Common.{arith, ap, length}
use Rattle.std.proofs.lemmas.List.{length-map}
use Rattle.edit_base.specs.declared.rows.Pick.TheVariants.{All}
use Rattle.edit_model.specs.Rows.{span_of}
use Rattle.edit_model.proofs.OverLists.{length-over-le}
use Rattle.editor_core.proofs.queries.print_spans_over.Goals as goal

pub print_found-requires : goal.print_found-requires
print_found-requires g c =
    let spans = c.args.text.now.state.spans in
    let found = ap length c.in_ok-spans_over.ensures.ok in
    omega (
      arith,
      found,
      c.as_slice.ensures.len,
      length-map c.spans_over.new.out.items span_of,
      length-over-le c.place_of.result c.place_of-2.result All spans,
      c.judge_range-verdict.ensures.few,
    )
