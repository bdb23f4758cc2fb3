-- The row comes behind those that stood.
use Rattle.std.proofs.Common.{rules, ◌≤◌, length, sym, subst, ◌++◌, [], ◌∷◌, ap, ◌∙◌, arith}
use Rattle.edit_model.specs.Rows.{span_of}
use Rattle.span_table.specs.Table.{kept_span}
use Rattle.moved_rows.specs.Moves.{AreNoted, Moves, befores}
use Rattle.moved_rows.proofs.Notes.{befores_length, befores_same, noted_behind, noted_more}
use Rattle.moved_rows.proofs.Shifts.{moved_behind, moved_same}
use Rattle.moved_rows.proofs.moved.MovedRows.add.Goals as goal

pub returns-clause-before : goal.returns-clause-before
returns-clause-before c =
    let it = c.self.inside in
    let row = kept_span it.rows.gap it.rows.room (span_of c.args.row.now) in
    ap (λ kept. befores kept c.push_within.new.list.items it.stamp it.gap it.room it.stood) c.in_ok-add.ensures.ok
    ∙ ap (λ olds. befores (it.rows.kept ++ row ∷ []) olds it.stamp it.gap it.room it.stood)
    (c.push_within.ensures.items ∙ ap (λ olds. olds ++ c.no_old.result ∷ []) c.in_ok-reserve.ensures.items)
    ∙ befores_same (it.rows.kept ++ row ∷ []) it.rows.kept (it.olds.items ++ c.no_old.result ∷ []) it.olds.items it.stamp it.gap it.room it.stood
    (λ i within. noted_behind it.rows.kept it.olds.items row c.no_old.result it.stamp i c.self.invariant.long (omega (arith, within, c.self.invariant.within)))
    ∙ ap (λ (m : Moves). m.before) c.self.view_is

pub returns-in_err-add-clause-moved : goal.returns-in_err-add-clause-moved
returns-in_err-add-clause-moved c = moved_same _ _ (search rules) (search rules) (search rules)

pub invariant_of-self-2 : goal.invariant_of-self-2
invariant_of-self-2 c =
    let it = c.self.inside in
    let row = kept_span it.rows.gap it.rows.room (span_of c.args.row.now) in
    subst (λ kept. AreNoted kept c.push_within.new.list.items it.stamp it.gap it.room it.stood) (sym c.in_ok-add.ensures.ok)
    (subst (λ olds. AreNoted (it.rows.kept ++ row ∷ []) olds it.stamp it.gap it.room it.stood)
    (sym (c.push_within.ensures.items ∙ ap (λ olds. olds ++ c.no_old.result ∷ []) c.in_ok-reserve.ensures.items))
    (noted_more it.rows.kept it.olds.items row c.no_old.result it.stamp it.gap it.room it.stood c.self.invariant c.no_old.ensures))

pub returns-clause-moved : goal.returns-clause-moved
returns-clause-moved c =
    moved_behind c.args.self.now _ (span_of c.args.row.now ∷ [])
    (subst (λ (m : Moves). length m.before ≤ length m.rows.kept) c.self.view_is
    (subst (λ n. n ≤ length c.self.inside.rows.kept) (sym (befores_length _ _ _ _ _ _)) c.self.invariant.within))
    (returns-clause-before c) (search rules) (search rules)
