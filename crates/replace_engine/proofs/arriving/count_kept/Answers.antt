-- One more span is counted where it isn't emptied.
use Rattle.std.proofs.Common.{◌≡◌, ◌+◌, Bool, not, cond, length, ap, sym, ◌∙◌, arith}
use Rattle.std.proofs.lemmas.List.{length-map}
use Rattle.edit_model.specs.Replaced.{is_emptied}
use Rattle.edit_model.specs.Rows.{span_of}
use Rattle.span_table.specs.Table.{span_at, spans_of}
use Rattle.replace_engine.proofs.Counted.{kept-more}
use Rattle.span_changes.proofs.Lists.{same_seen}
use Rattle.replace_engine.proofs.arriving.count_kept.Goals as goal
use Rattle.replace_engine.proofs.arriving.count_kept.Goals.{then-not-is_emptied, else-not-is_emptied}

pub loop-i-preserved : goal.loop-i-preserved
loop-i-preserved c =
    let cut = c.args.cut.now in
    let rows = c.args.rows.now in
    let is = c.rows-in-loop-i.ensures in
    let there : is_emptied cut.start cut.end cut.grown (span_of c.read.result) ≡ is_emptied cut.start cut.end cut.grown (span_at (spans_of rows) c.loop-i.i) =
    ap (is_emptied cut.start cut.end cut.grown)
    (c.read.ensures.span ∙ ap (λ spans. span_at spans c.loop-i.i) (same_seen c.rows-in-loop-i.result.now rows is.kept is.gap is.room)) in
    let more = kept-more (is_emptied cut.start cut.end cut.grown) (spans_of rows) c.loop-i.i
    (simp length-map (omega (arith, ap length c.rows.ensures.kept))) c.is_emptied.result c.loop-i.count
    c.loop-i.invariant.count (c.is_emptied.ensures ∙ there) in
    let counted = λ (emptied : Bool). cond (not emptied) (c.loop-i.count + 1) c.loop-i.count in
    elim c.if-not-is_emptied.branch [
      | then-not-is_emptied w ↦ record { count = w.count-is ∙ ap counted (sym w.if-not-is_emptied.true) ∙ more; few = rw w.count-is (omega arith) }
      | else-not-is_emptied w ↦ record { count = w.count-is ∙ ap counted (sym w.if-not-is_emptied.false) ∙ more; few = rw w.count-is (omega arith) }
    ]
