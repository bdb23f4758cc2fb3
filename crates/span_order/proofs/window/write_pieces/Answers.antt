-- One piece more is written.
use Rattle.std.proofs.Common.{◌≤◌, ◌+◌, ◌-◌, ◌*◌, ◌++◌, ◌∷◌, inl, inr, take, drop, ap, ◌∙◌, arith}
use Rattle.std.proofs.lemmas.Bool.{cases_lt}
use Rattle.span_order.specs.Window.{all_of, least_piece}
use Rattle.span_order.proofs.Anew.{written_more}
use Rattle.span_order.proofs.window.write_pieces.Goals as goal

pub loop-at-preserved : goal.loop-at-preserved
loop-at-preserved c =
    let old = c.args.blocks.now.items in
    let new = c.loop-at.blocks.items in
    let newer = c.put-written.new.blocks.items in
    let first = c.args.first in
    let end = c.args.end in
    let at = c.loop-at.at in
    let size = c.len-all.result in
    let all = all_of c.args.run.now in
    let count = c.piece_size-count.result in
    let w = c.loop-at.written in
    let v = c.put-written.result in
    let inv = c.loop-at.invariant in
    let written = inv.written in
    let piece = c.piece_size-count.ensures in
    let next = c.put-written.ensures.next in
    let from = written.from in
    let place = written.next in
    let large : least_piece size ≤ count = elim (cases_lt 0 at) [
      | inl some ↦ (let left = inv.left some c.loop-at-test.true in let least = piece.large in omega arith)
      | inr none ↦ (let least = piece.large in omega arith)
    ] in
    let few : 32 * (v.next - first) ≤ at + count + 31 = elim (cases_lt 0 at) [
      | inl some ↦ (let left = inv.left some c.loop-at-test.true in let least = piece.large in omega (arith, inv.few))
      | inr none ↦ (let least = piece.some in omega (arith, inv.few))
    ] in
    record {
      all = inv.all;
      within = omega (arith, piece.within);
      written = written_more old new newer first end all at count (least_piece size) w v written (omega arith) (omega (arith, piece.within, inv.all)) large
          (c.put-written.ensures.items ∙ ap (λ p. take w.next new ++ (p ∷ drop (w.next + (v.over - w.over)) new)) c.piece-block.ensures)
          next c.put-written.ensures.over;
      few = few;
      left = λ some more. omega (arith, piece.rest (omega arith));
      capacity = omega (arith, inv.capacity, c.put-written.ensures.capacity);
    }
