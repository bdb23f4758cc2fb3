-- The next span arrives behind those that stand there.
use Rattle.std.proofs.Common.{◌++◌, [], ◌∷◌, get_or, take, length, ap, sym, ◌∙◌, arith, length-append, append_assoc}
use Rattle.std.proofs.lemmas.List.{length-map}
use Rattle.edit_base.specs.declared.kinds.What.TheVariants.{Tag}
use Rattle.edit_base.specs.declared.rows.NewSpan.{NewSpan}
use Rattle.edit_model.specs.Rows.{span_of}
use Rattle.span_table.specs.Table.{spans_of}
use Rattle.replace_engine.specs.Arrivals.{arrivals}
use Rattle.replace_engine.proofs.Arrived.{next_arrives, next_within}
use Rattle.replace_engine.proofs.Counted.{length-behind, still_trans}
use Rattle.replace_engine.proofs.arriving.attach_spans.Goals as goal

-- what stands past the spans
abbrev blank : NewSpan
blank = record { id = 0; start = 0; end = 0; flags = 0; what = Tag 0 }

pub attach_span-requires-clause-room : goal.attach_span-requires-clause-room
attach_span-requires-clause-room c =
    let now = spans_of c.loop-span.moved.rows in
    let old = spans_of c.args.moved.now.rows in
    omega (
      arith,
      next_within c.args.cut.now old c.args.spans.now c.loop-span.span-index blank (omega arith) now c.loop-span.invariant.rows,
      c.requires.room,
      c.loop-span.invariant.spare,
    )

pub attach_span-requires-clause-few : goal.attach_span-requires-clause-few
attach_span-requires-clause-few c =
    let now = c.loop-span.moved.rows in
    let old = c.args.moved.now.rows in
    omega (
      arith,
      next_within c.args.cut.now (spans_of old) c.args.spans.now c.loop-span.span-index blank (omega arith) (spans_of now) c.loop-span.invariant.rows,
      length-behind now old (arrivals c.args.cut.now (spans_of old) (take c.loop-span.span-index c.args.spans.now)) c.loop-span.invariant.rows,
      c.requires.few,
    )

pub attach_span-requires-clause-told : goal.attach_span-requires-clause-told
attach_span-requires-clause-told c =
    let now = spans_of c.loop-span.moved.rows in
    let old = spans_of c.args.moved.now.rows in
    omega (
      arith,
      next_within c.args.cut.now old c.args.spans.now c.loop-span.span-index blank (omega arith) now c.loop-span.invariant.rows,
      ap length c.loop-span.invariant.added,
      length-map c.loop-span.added.items span_of,
      c.requires.told,
      c.loop-span.invariant.kept,
    )

pub loop-span-preserved : goal.loop-span-preserved
loop-span-preserved c =
    let now = spans_of c.loop-span.moved.rows in
    let old = spans_of c.args.moved.now.rows in
    let before = arrivals c.args.cut.now old (take c.loop-span.span-index c.args.spans.now) in
    let next = next_arrives c.args.cut.now old c.args.spans.now c.loop-span.span-index blank (omega arith) now c.loop-span.invariant.rows in
    let one = arrivals c.args.cut.now now (get_or c.args.spans.now c.loop-span.span-index blank ∷ []) in
    record {
      rows = c.attach_span.ensures.rows ∙ ap (λ list. list ++ one) c.loop-span.invariant.rows ∙ append_assoc old before one
          ∙ ap (λ list. old ++ list) (sym next);
      added = c.attach_span.ensures.added ∙ ap (λ list. list ++ one) c.loop-span.invariant.added ∙ sym next;
      still = still_trans c.args.moved.now c.loop-span.moved c.attach_span.new.moved c.loop-span.invariant.still c.attach_span.ensures.still;
      spare = omega (arith, c.loop-span.invariant.spare, c.attach_span.ensures.spare, ap length next, length-append before one);
      kept = omega (arith, c.loop-span.invariant.kept, c.attach_span.ensures.kept);
    }
