-- One more incoming span is counted where it arrives.
use Rattle.std.proofs.Common.{Bool, cond, ◌+◌, ap, sym, ◌∙◌, arith}
use Rattle.edit_base.specs.declared.kinds.What.TheVariants.{Tag}
use Rattle.edit_base.specs.declared.rows.NewSpan.{NewSpan}
use Rattle.span_table.specs.Table.{spans_of}
use Rattle.replace_engine.specs.Arrivals.{stayed}
use Rattle.replace_engine.proofs.Arrived.{count-more}
use Rattle.replace_engine.proofs.arriving.count_arrivals.Goals as goal
use Rattle.replace_engine.proofs.arriving.count_arrivals.Goals.{then-arrives, else-arrives}

-- what stands past the spans
abbrev blank : NewSpan
blank = record { id = 0; start = 0; end = 0; flags = 0; what = Tag 0 }

pub loop-at-preserved : goal.loop-at-preserved
loop-at-preserved c =
    let more = count-more c.args.cut.now (stayed c.args.cut.now (spans_of c.args.rows.now)) c.args.spans.now c.loop-at.at blank
    (omega arith) c.arrives.result c.loop-at.count c.loop-at.invariant.count c.arrives.ensures in
    let counted = λ (arrives : Bool). cond arrives (c.loop-at.count + 1) c.loop-at.count in
    elim c.if-arrives.branch [
      | then-arrives w ↦ record { count = w.count-is ∙ ap counted (sym w.if-arrives.true) ∙ more; few = rw w.count-is (omega arith) }
      | else-arrives w ↦ record { count = w.count-is ∙ ap counted (sym w.if-arrives.false) ∙ more; few = rw w.count-is (omega arith) }
    ]
