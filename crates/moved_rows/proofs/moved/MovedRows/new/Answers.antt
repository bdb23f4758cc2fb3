-- Nothing stood.
use Rattle.std.proofs.Common.{map, refl, sym, ap, ◌∙◌}
use Rattle.span_table.specs.Table.{seen}
use Rattle.moved_rows.specs.Moves.{befores}
use Rattle.moved_rows.proofs.moved.MovedRows.new.Goals as goal

pub returns-clause-begun : goal.returns-clause-begun
unfolding befores
returns-clause-begun c =
    let rows = c.in_ok-rows.rows in
    record {
      before = sym (c.shift_for_gap.ensures.spans ∙ ap (λ kept. map (seen rows.gap rows.room) kept) c.in_ok-rows.ensures.ok);
      told = refl;
    }
