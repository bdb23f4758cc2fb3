-- As many as stood, and what is told of them is where they stand.
use Rattle.std.proofs.Common.{◌≤◌, length, refl, sym, subst, ap, ◌∙◌}
use Rattle.moved_rows.specs.Moves.{Moves, moved_of}
use Rattle.moved_rows.proofs.Notes.{befores_length}
use Rattle.moved_rows.proofs.Shifts.{placed}
use Rattle.moved_rows.proofs.moved.MovedRows.count.Goals as goal

pub returns-clause-count : goal.returns-clause-count
returns-clause-count c = sym (befores_length _ _ _ _ _ _) ∙ ap (λ (m : Moves). length m.before) c.self.view_is

pub returns-clause-within : goal.returns-clause-within
returns-clause-within c =
    subst (λ (m : Moves). length m.before ≤ length m.rows.kept) c.self.view_is
    (subst (λ n. n ≤ length c.self.inside.rows.kept) (sym (befores_length _ _ _ _ _ _)) c.self.invariant.within)

pub returns-clause-listed : goal.returns-clause-listed
unfolding moved_of
returns-clause-listed c = refl

pub returns-clause-placed : goal.returns-clause-placed
returns-clause-placed c = placed c.args.self.now (returns-clause-within c)
