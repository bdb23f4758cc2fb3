-- The parts of three lists are those of the whole.
use Rattle.std.proofs.Common.{◌≡◌, ◌+◌, ◌-◌, sym, arith, append_assoc}
use Rattle.span_order.proofs.Parts.{three_parts}
use Rattle.span_order.proofs.run.Run.piece.Goals as goal

pub returns : goal.returns
returns c =
    let r = c.args.self.now in
    let n : c.args.at + c.args.count - c.args.at ≡ c.args.count = omega arith in
    rw (
      c.extend-3.ensures,
      c.extend-2.ensures,
      c.extend.ensures,
      c.new-block.ensures,
      c.part.ensures,
      c.part-2.ensures,
      c.part-3.ensures,
      c.saturating_sub.ensures,
      c.saturating_sub-2.ensures,
      c.saturating_sub-3.ensures,
      c.saturating_sub-4.ensures,
      n,
    )
    (simp append_assoc (sym (three_parts r.head.now r.slots.now r.tail.now c.args.at c.args.count)))
