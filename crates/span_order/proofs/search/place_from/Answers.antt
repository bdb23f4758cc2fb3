-- The slots beside the place tell for all.
use Rattle.std.proofs.Common.{◌≡◌, ◌<◌, ◌≤◌, ◌+◌, ◌-◌, ℕ, List, length, get_or, ap, subst, ◌∙◌, arith}
use Rattle.span_order.specs.Blocks.{block_at}
use Rattle.span_order.specs.Ranked.{rank_in, rank_of}
use Rattle.span_order.proofs.Numbers.{block_is}
use Rattle.span_order.proofs.Packing.{packed_at}
use Rattle.span_order.proofs.Parted.{seek_first, seek_within, some_below}
use Rattle.span_order.proofs.search.place_from.Goals as goal

pub returns-then-next-eq0-clause-parted : goal.returns-then-next-eq0-clause-parted
returns-then-next-eq0-clause-parted c =
    let bs = c.args.blocks.now in
    let keys = c.args.keys.now in
    let rank = rank_of c.args.number c.args.slot in
    let P : ℕ → Type 0 = λ k. rank ≤ rank_in keys (get_or (block_at bs k) 0 0) in
    λ rises. seek_first keys bs rank c.requires.packed rises (λ some. subst P c.if-next-eq0.true (c.block_from-next.ensures.from (omega arith)))

pub returns-clause-parted : goal.returns-clause-parted
returns-clause-parted c =
    let bs = c.args.blocks.now in
    let keys = c.args.keys.now in
    let rank = rank_of c.args.number c.args.slot in
    let next = c.block_from-next.result in
    let b = next - 1 in
    let i = c.index_from-index.result in
    let inside : b < length bs = omega arith in
    let is = c.as_slice.ensures.slots ∙ block_is bs b c.index-blocks-block.result inside c.index-blocks-block.is in
    let long = ap length is in
    let one : next ≡ b + 1 = omega arith in
    let Before : List ℕ → Type 0 = λ xs. rank_in keys (get_or xs (i - 1) 0) < rank in
    let From : List ℕ → Type 0 = λ xs. rank ≤ rank_in keys (get_or xs i 0) in
    let Next : ℕ → Type 0 = λ k. rank ≤ rank_in keys (get_or (block_at bs k) 0 0) in
    λ rises. seek_within keys bs rank b i c.requires.packed rises inside (omega (arith, c.index_from-index.ensures.within))
    (c.block_from-next.ensures.before (omega arith))
    (λ some. subst Before is (c.index_from-index.ensures.before some))
    (λ more. subst From is (c.index_from-index.ensures.from (omega arith)))
    (λ more. subst Next one (c.block_from-next.ensures.from (omega arith)))

pub returns-clause-behind : goal.returns-clause-behind
returns-clause-behind c =
    let bs = c.args.blocks.now in
    let keys = c.args.keys.now in
    let rank = rank_of c.args.number c.args.slot in
    let b = c.block_from-next.result - 1 in
    let i = c.index_from-index.result in
    let inside : b < length bs = omega arith in
    let is = c.as_slice.ensures.slots ∙ block_is bs b c.index-blocks-block.result inside c.index-blocks-block.is in
    let long = ap length is in
    let held = (packed_at bs b c.requires.packed inside).some in
    let From : List ℕ → Type 0 = λ xs. rank ≤ rank_in keys (get_or xs i 0) in
    λ _. some_below keys (block_at bs b) rank i held (c.block_from-next.ensures.before (omega arith))
    (λ more. subst From is (c.index_from-index.ensures.from (omega arith)))
