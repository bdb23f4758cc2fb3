-- One block changes, and stays large enough.
use Rattle.std.proofs.Common.{◌≡◌, ◌+◌, ◌++◌, length, take, drop, ap, ◌∙◌, arith, length-append, length-drop}
use Rattle.std.specs.List.{concat}
use Rattle.std.proofs.lemmas.List.{length-take-le}
use Rattle.span_order.specs.Blocks.{block_at, start_of}
use Rattle.span_order.proofs.Numbers.{block_is}
use Rattle.span_order.proofs.Anew.{replaced_all, replaced_packed}
use Rattle.span_order.proofs.window.replace_within.Goals as goal

pub returns-clause-all : goal.returns-clause-all
returns-clause-all c =
    let bs = c.args.blocks.now.items in
    let from = c.args.from in
    let to = c.args.to in
    let s = c.args.slots.now in
    let fits = c.requires.fits in
    let here = block_is bs from.block c.index_mut.result.now fits.block c.index_mut.ensures.value in
    let is : c.replace.new.self ≡ take from.index (block_at bs from.block) ++ (s ++ drop to.index (block_at bs from.block)) =
    c.replace.ensures ∙ ap (λ b. take from.index b ++ (s ++ drop to.index b)) here in
    let one = ap (λ b. length (block_at bs b)) fits.one in
    replaced_all bs from.block from.index to.index c.replace.new.self s fits.block c.requires.from.index (omega arith) is
    ∙ ap (λ b. take (start_of bs from.block + from.index) (concat bs) ++ (s ++ drop (start_of bs b + to.index) (concat bs))) fits.one

pub returns-clause-packed : goal.returns-clause-packed
returns-clause-packed c =
    let bs = c.args.blocks.now.items in
    let from = c.args.from in
    let to = c.args.to in
    let s = c.args.slots.now in
    let fits = c.requires.fits in
    let block = c.index_mut.result.now in
    let here = ap length (block_is bs from.block block fits.block c.index_mut.ensures.value) in
    let one = ap (λ b. length (block_at bs b)) fits.one in
    let long = ap length c.replace.ensures ∙ length-append (take from.index block) (s ++ drop to.index block) in
    let longer = length-append s (drop to.index block) in
    let front = length-take-le from.index block (omega arith) in
    let rest = length-drop to.index block in
    let some = fits.some in
    let before = fits.before in
    let behind = fits.behind in
    replaced_packed bs from.block c.replace.new.self c.requires.packed fits.block (omega arith) (omega arith) (omega arith)
