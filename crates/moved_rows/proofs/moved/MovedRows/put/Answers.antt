-- The row was noted before it changed.
use Rattle.std.proofs.Common.{ℕ, ◌≡◌, ◌<◌, length, sym, subst, ap, ◌∙◌, arith}
use Rattle.std.specs.List.{slice_set}
use Rattle.std.proofs.lemmas.List.{length-set}
use Rattle.edit_model.specs.Rows.{span_of}
use Rattle.span_table.specs.Table.{AreNumbers, kept_span}
use Rattle.moved_rows.specs.Moves.{Moves, noted_at}
use Rattle.moved_rows.proofs.Notes.{befores_length, befores_same, noted_put}
use Rattle.moved_rows.proofs.moved.MovedRows.put.Goals as goal

pub note-requires-clause-within : goal.note-requires-clause-within
note-requires-clause-within c =
    let old = subst (λ (m : Moves). c.args.i < length m.before) (sym c.self.view_is) c.requires.within in
    let stood = subst (λ n. c.args.i < n) (befores_length _ _ _ _ _ _) old in
    subst (λ kept. c.args.i < length kept) (sym c.rows.ensures.kept) (omega (arith, stood, c.self.invariant.within))

pub put-requires-clause-within : goal.put-requires-clause-within
put-requires-clause-within c =
    let old = subst (λ (m : Moves). c.args.i < length m.before) (sym c.self.view_is) c.requires.within in
    let stood = subst (λ n. c.args.i < n) (befores_length _ _ _ _ _ _) old in
    omega (arith, stood, c.self.invariant.within)

-- each place is noted as it was
noted_still : (c : goal.After-put) (j : ℕ)
    → noted_at c.put.new.self.kept c.note.new.olds.items c.self.inside.stamp j ≡ noted_at c.self.inside.rows.kept c.self.inside.olds.items c.self.inside.stamp j
noted_still c j =
    let it = c.self.inside in
    let notes = c.note.new.olds.items in
    let i = c.args.i in
    let row = kept_span it.rows.gap it.rows.room (span_of c.args.row.now) in
    ap (λ kept. noted_at kept notes it.stamp j) c.put.ensures.kept
    ∙ noted_put it.rows.kept it.olds.items notes row it.stamp i
    (subst (λ kept. (k : ℕ) → noted_at kept notes it.stamp k ≡ noted_at kept it.olds.items it.stamp k) c.rows.ensures.kept c.note.ensures.noted)
    (subst (λ kept. noted_at (slice_set kept i row) notes it.stamp i ≡ noted_at kept it.olds.items it.stamp i) c.rows.ensures.kept
    (c.note.ensures.others row))
    j

pub invariant_of-self : goal.invariant_of-self
invariant_of-self c =
    let it = c.self.inside in
    let long = ap length c.put.ensures.kept ∙ length-set it.rows.kept c.args.i _ in
    record {
      long = omega (arith, long, c.note.ensures.long, c.note.new.olds.ok, it.olds.ok, c.self.invariant.long);
      within = omega (arith, long, c.self.invariant.within);
      stamps = c.note.ensures.stamps;
      numbers = λ j within. subst (AreNumbers it.gap it.room) (sym (noted_still c j)) (c.self.invariant.numbers j within);
    }

pub returns-clause-before : goal.returns-clause-before
returns-clause-before c =
    let it = c.self.inside in
    befores_same c.put.new.self.kept it.rows.kept c.note.new.olds.items it.olds.items it.stamp it.gap it.room it.stood (λ j within. noted_still c j)
    ∙ ap (λ (m : Moves). m.before) c.self.view_is
