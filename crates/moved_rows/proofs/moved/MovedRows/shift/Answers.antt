-- The row, as it was noted.
use Rattle.std.proofs.Common.{◌<◌, length, sym, subst, ap, ◌∙◌, arith}
use Rattle.span_table.specs.Table.{AreNumbers, kept_at, seen, span_at, spans_of}
use Rattle.moved_rows.specs.Moves.{Moves}
use Rattle.moved_rows.proofs.Notes.{befores_length, befores_at, noted_read, same_shift, seen_same}
use Rattle.moved_rows.proofs.moved.MovedRows.shift.Goals as goal

pub kept-row-requires : goal.kept-row-requires
kept-row-requires c =
    let stood = subst (λ n. c.args.i < n) (befores_length _ _ _ _ _ _) (subst (λ (m : Moves). c.args.i < length m.before) (sym c.self.view_is) c.requires) in
    subst (λ kept. c.args.i < length kept) (sym c.rows-rows.ensures.kept) (omega (arith, stood, c.self.invariant.within))

pub index-requires : goal.index-requires
index-requires c =
    let stood = subst (λ n. c.args.i < n) (befores_length _ _ _ _ _ _) (subst (λ (m : Moves). c.args.i < length m.before) (sym c.self.view_is) c.requires) in
    omega (arith, stood, c.self.invariant.within, c.self.invariant.long, c.self.inside.olds.ok)

pub seen-requires : goal.seen-requires
seen-requires c =
    let it = c.self.inside in
    let stood = subst (λ n. c.args.i < n) (befores_length _ _ _ _ _ _) (subst (λ (m : Moves). c.args.i < length m.before) (sym c.self.view_is) c.requires) in
    let row = c.kept-row.ensures.row ∙ ap (λ kept. kept_at kept c.args.i) c.rows-rows.ensures.kept in
    let note = c.noted.ensures ∙ noted_read it.rows.kept it.olds.items it.stamp c.args.i c.index.result.now c.kept-row.result
    (omega (arith, stood, c.self.invariant.within, c.self.invariant.long)) c.index.ensures row in
    subst (AreNumbers it.gap it.room) (sym note) (c.self.invariant.numbers c.args.i stood)

pub returns : goal.returns
returns c =
    let it = c.self.inside in
    let stood = subst (λ n. c.args.i < n) (befores_length _ _ _ _ _ _) (subst (λ (m : Moves). c.args.i < length m.before) (sym c.self.view_is) c.requires) in
    let row = c.kept-row.ensures.row ∙ ap (λ kept. kept_at kept c.args.i) c.rows-rows.ensures.kept in
    let note = c.noted.ensures ∙ noted_read it.rows.kept it.olds.items it.stamp c.args.i c.index.result.now c.kept-row.result
    (omega (arith, stood, c.self.invariant.within, c.self.invariant.long)) c.index.ensures row in
    let from = c.seen.ensures.span ∙ ap (seen it.gap it.room) note ∙ sym (befores_at it.rows.kept it.olds.items it.stamp it.gap it.room it.stood c.args.i stood)
    ∙ ap (λ (m : Moves). span_at m.before c.args.i) c.self.view_is in
    let rows = c.rows-rows.result.now in
    let to = c.seen-2.ensures.span ∙ ap (λ gap. seen gap c.room.result c.kept-row.result) c.gap.ensures
    ∙ ap (λ room. seen rows.gap room c.kept-row.result) c.room.ensures ∙ c.kept-row.ensures.span
    ∙ ap (λ spans. span_at spans c.args.i) (seen_same rows.kept it.rows.kept _ _ _ _ c.rows-rows.ensures.kept c.rows-rows.ensures.gap c.rows-rows.ensures.room)
    ∙ ap (λ (m : Moves). span_at (spans_of m.rows) c.args.i) c.self.view_is in
    same_shift _ _ _ _ from to
