-- What is read stands behind the places that were written.
use Rattle.std.proofs.Common.{◌≡◌, true, false, sym, ◌∙◌, arith}
use Rattle.slot_ranks.specs.Slots.{is_live}
use Rattle.span_table.proofs.Places.{packing_dead, packing_live, packing_start}
use Rattle.span_table.proofs.slots.pack.Goals as goal

pub loop-slot-init : goal.loop-slot-init
loop-slot-init g c = record { packing = packing_start c.args.ranks.now.live c.args.items.now.items; capacity = omega arith }

pub loop-slot-preserved-then-not-is_live : goal.loop-slot-preserved-then-not-is_live
loop-slot-preserved-then-not-is_live g c =
    let dead : is_live c.args.ranks.now.live c.loop-slot.slot ≡ false = sym c.is_live.ensures ∙ c.if-not-is_live.true in
    record {
      packing = packing_dead c.args.ranks.now.live c.args.items.now.items c.loop-slot.items.items c.loop-slot.slot dead c.loop-slot.invariant.packing;
      capacity = c.loop-slot.invariant.capacity;
    }

pub loop-slot-preserved : goal.loop-slot-preserved
loop-slot-preserved g c =
    let is : is_live c.args.ranks.now.live c.loop-slot.slot ≡ true = sym c.is_live.ensures ∙ c.if-not-is_live.false in
    record {
      packing = packing_live c.args.ranks.now.live c.args.items.now.items c.loop-slot.items.items c.loop-slot.slot c.rank.result c.index.result.now is
          c.rank.ensures.rank (omega arith) c.index.ensures c.loop-slot.invariant.packing;
      capacity = c.loop-slot.invariant.capacity;
    }
