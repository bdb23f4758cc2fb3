-- A window's first block is that of the first place, and its last that of the last.
use Rattle.std.proofs.Common.{◌+◌, ◌++◌, take, refl, sym, ap, ◌∙◌, arith}
use Rattle.std.specs.List.{concat}
use Rattle.std.proofs.lemmas.List.{drop_min}
use Rattle.span_order.proofs.Numbers.{back_at, front_at}
use Rattle.span_order.proofs.window.window_of.Goals as goal

pub returns : goal.returns
returns c =
    let bs = c.args.blocks.now in
    let from = c.args.from in
    let to = c.args.to in
    let end = c.min.ensures in
    record {
      order = omega arith;
      within = omega arith;
      front = front_at bs from.block from.index c.requires.from.index ∙ ap (λ xs. concat (take from.block bs) ++ xs) (sym c.head_at.ensures);
      back = back_at bs to.block to.index c.requires.to.index
          ∙ rw (c.tail_at.ensures, c.min.ensures, drop_min (to.block + 1) bs) refl;
    }
