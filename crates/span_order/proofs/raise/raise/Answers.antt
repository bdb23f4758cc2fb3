-- One block more has its top.
use Rattle.std.proofs.Common.{◌<◌, length, arith, inl, inr, ◌∙◌}
use Rattle.std.proofs.lemmas.Bool.{cases_lt, cases_eq}
use Rattle.std.proofs.lemmas.List.{get_or-set_same, get_or-set_other, length-set}
use Rattle.span_order.proofs.Entries.{All-block}
use Rattle.span_order.proofs.raise.raise.Goals as goal

pub top_of-requires-clause-within : goal.top_of-requires-clause-within
top_of-requires-clause-within c =
    rw c.slots.ensures.slots (All-block (λ slot. slot < length c.args.ends.now) c.args.order.now.blocks c.loop-block.block (omega arith) c.requires.slots)

pub loop-block-preserved : goal.loop-block-preserved
loop-block-preserved c =
    let bs = c.args.order.now.blocks in
    let tops = c.loop-block.tops in
    let block = c.loop-block.block in
    let top = c.top_of.result in
    let so_far = c.loop-block.invariant in
    let this = c.top_of.ensures in
    record {
      long = length-set tops block top ∙ so_far.long;
      before = λ b h w. elim (cases_eq b block) [
        | inl same ↦ rw (same, get_or-set_same tops block top _ (omega arith)) (rw (← c.slots.ensures.slots) this)
        | inr other ↦ rw (get_or-set_other tops block b top _ other) (so_far.before b (omega arith) w)
      ];
      behind = λ b h w. rw (get_or-set_other tops block b top _ (omega arith)) (so_far.behind b h w);
    }

pub returns : goal.returns
returns c =
    let so_far = c.loop-block.invariant in
    record {
      long = so_far.long;
      each = λ b w. elim (cases_lt b c.loop-block.block) [
        | inl before ↦ so_far.before b before w
        | inr behind ↦ so_far.behind b (omega arith) w
      ];
    }
