-- No note has the new stamp.
use Rattle.std.proofs.Common.{refl, ap, ◌∙◌, length, arith}
use Rattle.moved_rows.proofs.Notes.{befores_begun, seen_same}
use Rattle.moved_rows.proofs.moved.MovedRows.begin.Goals as goal

pub returns-clause-begun : goal.returns-clause-begun
returns-clause-begun c =
    let next = c.next_stamp-self-inside in
    let kept = c.self.inside.rows.kept in
    record {
      before = befores_begun kept next.new.olds.items next.result c.gap-self-inside.result c.room-self-inside.result c.count-self-inside.result
          next.ensures.stamps
          (omega (arith, next.ensures.long, next.new.olds.ok, c.self.inside.olds.ok, c.self.invariant.long))
          (c.count-self-inside.ensures.count ∙ ap length c.rows-rows.ensures.kept)
          ∙ seen_same kept kept _ _ _ _ refl (c.gap-self-inside.ensures ∙ c.rows-rows.ensures.gap) (c.room-self-inside.ensures ∙ c.rows-rows.ensures.room);
      told = refl;
    }
