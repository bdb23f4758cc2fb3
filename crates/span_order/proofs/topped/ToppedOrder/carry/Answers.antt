-- Each block's greatest ends go with its ends.
use Rattle.std.proofs.Common.{List, length, ap, sym, ◌∙◌, subst, arith}
use Rattle.std.specs.List.{concat}
use Rattle.span_order.specs.Blocks.{block_at}
use Rattle.span_order.specs.Tops.{IsTop}
use Rattle.span_order.specs.Topped.{AreCarried, IsTopped, ToppedRow, carried, top_at}
use Rattle.span_order.specs.declared.tops.Top.{Top}
use Rattle.span_order.proofs.CarriedTops.{block_carried, top_carried}
use Rattle.span_order.proofs.Turned.{written_back}
use Rattle.span_order.proofs.topped.ToppedOrder.carry.Goals as goal

pub returns-clause-topped : goal.returns-clause-topped
returns-clause-topped c = λ old ends topped all.
    let low = c.args.low in
    let high = c.args.high in
    let up = c.args.up in
    let down = c.args.down in
    let bs = c.self.inside.order.blocks in
    let tops = c.self.inside.tops.items in
    let new = c.carry_crests.new.tops in
    let had = subst (λ (row : ToppedRow). IsTopped old row.blocks row.tops) (sym c.self.view_is) topped in
    let entries = subst (λ (row : ToppedRow). AreCarried low high up down old ends (concat row.blocks)) (sym c.self.view_is) all in
    let long = c.carry_crests.auto.tops ∙ ap length c.deref_mut.ensures.value in
    let back = written_back tops new c.self.inside.tops.len long (omega arith) in
    let count = had.long in
    subst (λ (ts : List Top). IsTopped ends bs ts) (sym back) (record {
      long = omega arith;
      each = λ b within.
          let is = c.carry_crests.ensures b (omega (arith, ap length c.deref_mut.ensures.value))
          ∙ ap (λ (ts : List Top). record (top_at ts b) { crest = carried low high up down (top_at ts b).crest }) c.deref_mut.ensures.value in
          subst (λ (top : Top). IsTop ends (block_at bs b) top) (sym is)
          (top_carried low high up down old ends (block_at bs b) (top_at tops b) (had.each b within) (block_carried low high up down old ends bs b within entries));
    })
