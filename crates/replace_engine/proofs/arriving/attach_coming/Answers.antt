-- Some spans come, and behind them the composing region.
use Rattle.std.proofs.Common.{◌++◌, [], append_assoc, ap, sym, ◌∙◌, arith}
use Rattle.std.specs.Option.{option_to_list}
use Rattle.span_table.specs.Table.{spans_of}
use Rattle.replace_engine.specs.Arrivals.{arrivals}
use Rattle.replace_engine.proofs.Arrived.{arrivals-append, length-arrivals-append, length-came}
use Rattle.replace_engine.proofs.Counted.{length-behind}
use Rattle.replace_engine.proofs.arriving.attach_coming.Goals as goal

pub attach_region-requires-clause-few : goal.attach_region-requires-clause-few
attach_region-requires-clause-few c =
    let old = c.args.moved.now.rows in
    rw c.attach_spans.ensures.rows
    (omega (
      arith,
      c.requires.few,
      length-behind c.attach_spans.new.moved.rows old (arrivals c.args.cut.now (spans_of old) c.args.coming.now.spans.now) c.attach_spans.ensures.rows,
      length-arrivals-append c.args.cut.now (spans_of old) c.args.coming.now.spans.now (option_to_list c.args.coming.now.region),
    ))

pub attach_region-requires-clause-told : goal.attach_region-requires-clause-told
attach_region-requires-clause-told c =
    let old = spans_of c.args.moved.now.rows in
    rw c.attach_spans.ensures.rows
    (omega (
      arith,
      c.requires.told,
      c.attach_spans.ensures.kept,
      length-came c.attach_spans.new.added.items [] (arrivals c.args.cut.now old c.args.coming.now.spans.now) c.attach_spans.ensures.added,
      length-arrivals-append c.args.cut.now old c.args.coming.now.spans.now (option_to_list c.args.coming.now.region),
    ))

pub returns-clause-rows : goal.returns-clause-rows
returns-clause-rows c =
    let old = spans_of c.args.moved.now.rows in
    let region = option_to_list c.args.coming.now.region in
    c.attach_region.ensures.rows
    ∙ ap (λ spans. spans ++ arrivals c.args.cut.now spans region) c.attach_spans.ensures.rows
    ∙ append_assoc old (arrivals c.args.cut.now old c.args.coming.now.spans.now) _
    ∙ ap (λ came. old ++ came) (sym (arrivals-append c.args.cut.now old c.args.coming.now.spans.now region))
