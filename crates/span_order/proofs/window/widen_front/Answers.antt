-- The block before the window goes into its head.
use Rattle.std.proofs.Common.{◌≡◌, ◌-◌, ◌++◌, length, take, sym, ap, ◌∙◌, arith, length-append}
use Rattle.std.specs.List.{concat}
use Rattle.span_order.specs.Blocks.{block_at}
use Rattle.span_order.proofs.Numbers.{block_is}
use Rattle.span_order.proofs.Packing.{packed_at, some_before}
use Rattle.span_order.proofs.Anew.{widened_front}
use Rattle.span_order.proofs.window.widen_front.Goals as goal

pub returns-clause-is : goal.returns-clause-is
returns-clause-is c =
    let bs = c.args.blocks.now in
    let w = c.args.window in
    let some = some_before bs w.first c.size_before-before.result c.size_before-before.ensures.size c.if-before-gt-SMALL.false in
    let here : c.of-wider.result ≡ block_at bs (w.first - 1) =
    c.of-wider.ensures ∙ c.as_slice.ensures.slots ∙ block_is bs (w.first - 1) c.index-blocks-first.result (omega arith) c.index-blocks-first.is in
    let wider : c.extend.new.self ≡ c.of-wider.result ++ w.head = c.extend.ensures ∙ ap (λ xs. c.of-wider.result ++ xs) c.as_slice-2.ensures.slots in
    λ front back is. record {
      order = omega (arith, is.order);
      within = is.within;
      front = is.front ∙ widened_front bs w.first w.head c.of-wider.result some (omega arith) here
          ∙ ap (λ xs. concat (take (w.first - 1) bs) ++ xs) (sym wider);
      back = is.back;
    }

pub returns-clause-before : goal.returns-clause-before
returns-clause-before c =
    let bs = c.args.blocks.now in
    let w = c.args.window in
    let some = some_before bs w.first c.size_before-before.result c.size_before-before.ensures.size c.if-before-gt-SMALL.false in
    let here : c.of-wider.result ≡ block_at bs (w.first - 1) =
    c.of-wider.ensures ∙ c.as_slice.ensures.slots ∙ block_is bs (w.first - 1) c.index-blocks-first.result (omega arith) c.index-blocks-first.is in
    let size = ap length here in
    let long = ap length c.extend.ensures ∙ length-append c.of-wider.result c.as_slice-2.result.now in
    let beside = (packed_at bs (w.first - 1) c.requires.packed (omega arith)).beside in
    omega arith
