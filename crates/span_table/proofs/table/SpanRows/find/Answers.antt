-- The first row with the id.
use Rattle.std.proofs.Common.{sym, ap, ◌∙◌, below_more, eqb, length, arith}
use Rattle.std.proofs.lemmas.Bool.{eq-eqb, ne_eqb}
use Rattle.std.proofs.lemmas.List.{length-map}
use Rattle.edit_model.specs.Attached.{has_id}
use Rattle.slot_ranks.proofs.Below.{live_within}
use Rattle.span_table.specs.Table.{Rows, seen, span_at, spans_of}
use Rattle.span_table.proofs.Places.{rows_long}
use Rattle.span_table.proofs.Found.{first_passes, id_there, none_passes}
use Rattle.span_table.proofs.table.SpanRows.find.Goals as goal

pub returns-then-index-id : goal.returns-then-index-id
returns-then-index-id c =
    let fixed = c.self.inside.fixed.items in
    let starts = c.self.inside.starts.items in
    let ends = c.self.inside.ends.items in
    let live = c.self.inside.ranks.live in
    let place = c.loop-place.place in
    let long = rows_long fixed starts ends live in
    let spans = length-map c.args.self.now.kept (seen c.args.self.now.gap c.args.self.now.room) in
    let kept = ap (λ (r : Rows). length r.kept) c.self.view_is in
    let below = live_within live c.slot_at.result c.slot_at.ensures.live in
    let parts = c.self.invariant.rows.fixed_long in
    let id = id_there fixed starts ends live c.self.inside.gap c.self.inside.room place c.slot_at.result c.index.result.now (omega arith)
    c.slot_at.ensures.slot (omega arith) c.index.ensures in
    first_passes (has_id c.args.id) (spans_of c.args.self.now) place (omega arith) c.loop-place.invariant
    (sym (ap (λ (r : Rows). has_id c.args.id (span_at (spans_of r) place)) c.self.view_is) ∙ ap (λ n. eqb n c.args.id) id
    ∙ eq-eqb c.index.result.now.id c.args.id c.if-index-id.true)

pub loop-place-preserved : goal.loop-place-preserved
loop-place-preserved c =
    let fixed = c.self.inside.fixed.items in
    let starts = c.self.inside.starts.items in
    let ends = c.self.inside.ends.items in
    let live = c.self.inside.ranks.live in
    let place = c.loop-place.place in
    let below = live_within live c.slot_at.result c.slot_at.ensures.live in
    let parts = c.self.invariant.rows.fixed_long in
    let id = id_there fixed starts ends live c.self.inside.gap c.self.inside.room place c.slot_at.result c.index.result.now (omega arith)
    c.slot_at.ensures.slot (omega arith) c.index.ensures in
    below_more _ _ c.loop-place.invariant
    (sym (ap (λ (r : Rows). has_id c.args.id (span_at (spans_of r) place)) c.self.view_is) ∙ ap (λ n. eqb n c.args.id) id
    ∙ ne_eqb c.index.result.now.id c.args.id c.if-index-id.false)

pub returns : goal.returns
returns c =
    let long = rows_long c.self.inside.fixed.items c.self.inside.starts.items c.self.inside.ends.items c.self.inside.ranks.live in
    let spans = length-map c.args.self.now.kept (seen c.args.self.now.gap c.args.self.now.room) in
    let kept = ap (λ (r : Rows). length r.kept) c.self.view_is in
    none_passes (has_id c.args.id) (spans_of c.args.self.now) c.loop-place.place (omega arith) c.loop-place.invariant
