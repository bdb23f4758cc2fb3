-- One block more is numbered.
use Rattle.std.proofs.Common.{◌+◌, ◌<◌, [], length, map, take, drop, ap, ◌∙◌, sym, arith}
use Rattle.std.proofs.Math.ListN.{set}
use Rattle.std.proofs.lemmas.List.{get_or_default, drop-drop, drop-set-lt, length-set}
use Rattle.slot_ranks.specs.Slots.{rank}
use Rattle.span_order.proofs.Parts.{map_more_set}
use Rattle.span_order.proofs.order.renumber_blocks.Goals as goal

pub loop-at-preserved : goal.loop-at-preserved
loop-at-preserved c =
    let ys = c.loop-at.blocks in
    let xs = c.args.blocks.now in
    let at = c.loop-at.at in
    let inv = c.loop-at.invariant in
    let inside : at < length xs = omega arith in
    let within : at < length ys = omega arith in
    let here = get_or_default ys at c.index-blocks-at.result [] within in
    record {
      front = ap (λ x. take (at + 1) (set ys at x)) (c.renumber.ensures ∙ ap (map (rank c.args.ranks.now.live)) here) ∙ (map_more_set (map (rank c.args.ranks.now.live)) xs ys at [] inside within inv.front inv.rest);
      rest = drop-set-lt (at + 1) ys at c.renumber.new.self (omega arith) ∙ sym (drop-drop 1 at ys) ∙ ap (drop 1) inv.rest ∙ drop-drop 1 at xs;
      long = length-set ys at c.renumber.new.self ∙ inv.long;
    }
