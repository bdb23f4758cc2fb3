-- The slot stands where its rank parts all.
use Rattle.std.proofs.Common.{◌++◌, take, drop, ap, ◌∙◌}
use Rattle.std.specs.List.{concat}
use Rattle.span_order.specs.Blocks.{number_of}
use Rattle.span_order.proofs.Entries.{place_within}
use Rattle.span_order.proofs.PlacedSlots.{stands_at, taken}
use Rattle.span_order.proofs.order.Order.take_out.Goals as goal

pub returns-clause-all : goal.returns-clause-all
returns-clause-all c =
    let bs = c.args.self.now.blocks in
    let from = c.seek-from.result in
    let found = stands_at c.args.keys.now (concat bs) c.args.slot (number_of bs from) c.requires.rising (place_within bs from c.seek-from.ensures.place)
    c.ranges.slot.fits c.requires.few c.requires.keys c.requires.there (c.seek-from.ensures.parted c.requires.rising) in
    c.splice.ensures.all ∙ ap (λ n. take (number_of bs from) (concat bs) ++ drop n (concat bs)) c.forward-to.ensures.number
    ∙ taken (concat bs) c.args.slot (number_of bs from) found c.requires.apart
