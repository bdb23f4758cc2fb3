-- The blocks that the splice kept have their tops.
use Rattle.std.proofs.Common.{length, ap, inl, inr, arith}
use Rattle.std.specs.List.{concat}
use Rattle.std.proofs.lemmas.Bool.{cases_eq}
use Rattle.span_order.specs.Topped.{IsToppedBut}
use Rattle.span_order.proofs.Entries.{place_within}
use Rattle.span_order.proofs.Numbers.{numbers_rise}
use Rattle.span_order.proofs.Splices.{kept_topped, length_kept, length_spliced}
use Rattle.span_order.proofs.raise.splice_raised.Goals as goal

pub spread-changed-requires-clause-fits : goal.spread-changed-requires-clause-fits
spread-changed-requires-clause-fits c =
    let blocks = length_kept c.args.order.now.blocks c.splice-changed.new.self.blocks c.splice-changed.result c.splice-changed.ensures.keeps in
    let tops_long = c.requires.topped.long in
    let within = c.splice-changed.ensures.keeps.old_within in
    omega arith

pub fit-requires-clause-room : goal.fit-requires-clause-room
fit-requires-clause-room c =
    let bs = c.args.order.now.blocks in
    let from = c.args.from in
    let to = c.args.to in
    let low = place_within bs from c.requires.from in
    let high = place_within bs to c.requires.to in
    let rise = numbers_rise bs from.block from.index to.block to.index c.requires.order c.requires.same c.requires.to.block c.requires.from.index in
    let all = ap length c.splice-changed.ensures.all in
    let long = length_spliced bs from to c.args.slots.now low high in
    let blocks = length_kept bs c.splice-changed.new.self.blocks c.splice-changed.result c.splice-changed.ensures.keeps in
    let tops_long = c.requires.topped.long in
    elim (cases_eq (length (concat c.splice-changed.new.self.blocks)) 0) [
      | inl none ↦ (let no_blocks = c.count_blocks-count.ensures.none none in omega arith)
      | inr some ↦ omega arith
    ]

pub raise-requires-clause-tops : goal.raise-requires-clause-tops
raise-requires-clause-tops c =
    let bs = c.args.order.now.blocks in
    let topped : IsToppedBut c.args.ends.now bs c.args.tops.now.items c.args.from.block c.min-end.result = record {
      long = c.requires.topped.long;
      before = c.requires.topped.before;
      behind = λ b low within. let tops_long = c.requires.topped.long in c.requires.topped.behind b (grind arith) within;
    } in
    rw c.deref_mut.ensures.value
    (kept_topped c.args.ends.now bs c.splice-changed.new.self.blocks c.args.tops.now.items c.fit.new.tops.items c.splice-changed.result
    c.spread-changed.result c.args.from.block c.min-end.result c.splice-changed.ensures.keeps topped
    c.spread-changed.ensures.first c.spread-changed.ensures.old_end c.spread-changed.ensures.end
    c.fit.ensures.before c.fit.ensures.behind c.fit.ensures.len)

pub raise-requires-clause-within : goal.raise-requires-clause-within
raise-requires-clause-within c =
    let blocks = length_kept c.args.order.now.blocks c.splice-changed.new.self.blocks c.splice-changed.result c.splice-changed.ensures.keeps in
    let tops_long = c.requires.topped.long in
    let within = c.splice-changed.ensures.keeps.old_within in
    omega arith
