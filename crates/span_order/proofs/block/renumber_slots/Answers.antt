-- One slot more is numbered.
use Rattle.std.proofs.Common.{◌+◌, ◌<◌, length, drop, ap, ◌∙◌, sym, arith}
use Rattle.std.proofs.lemmas.List.{drop-drop, drop-set-lt, length-set}
use Rattle.slot_ranks.specs.Slots.{rank}
use Rattle.span_order.proofs.Parts.{map_more_set}
use Rattle.span_order.proofs.block.renumber_slots.Goals as goal

pub loop-at-preserved : goal.loop-at-preserved
loop-at-preserved c =
    let ys = c.loop-at.slots in
    let xs = c.args.slots.now in
    let at = c.loop-at.at in
    let inv = c.loop-at.invariant in
    let inside : at < length xs = omega arith in
    let within : at < length ys = omega arith in
    record {
      front = rw c.rank.ensures.rank (map_more_set (rank c.args.ranks.now.live) xs ys at 0 inside within inv.front inv.rest);
      rest = drop-set-lt (at + 1) ys at c.rank.result (omega arith) ∙ sym (drop-drop 1 at ys) ∙ ap (drop 1) inv.rest ∙ drop-drop 1 at xs;
      long = length-set ys at c.rank.result ∙ inv.long;
    }
