-- One four more, with its slot.
use Rattle.std.proofs.Common.{◌≡◌, ◌*◌, ◌/◌, ◌∙◌, inl, inr, get_or, arith}
use Rattle.std.proofs.lemmas.Bool.{cases_lt, cases_eq}
use Rattle.std.proofs.lemmas.List.{get_or-set_same, get_or-set_other, length-set}
use Rattle.span_order.proofs.Crests.{greatest_map}
use Rattle.span_order.proofs.tops.top_of.Goals as goal

pub loop-four-preserved : goal.loop-four-preserved
loop-four-preserved c =
    let ends = c.args.ends.now in
    let slots = c.args.slots.now in
    let fours = c.loop-four.top.fours in
    let four = c.loop-four.four in
    let slot = c.last_of-last.result in
    let long = c.loop-four.invariant.long in
    let there = c.last_of-last.ensures.there in
    let same = get_or-set_same fours four slot 0 (omega arith) in
    record {
      long = length-set fours four slot ∙ long;
      there = λ k h. elim (cases_eq k four) [
        | inl is ↦ (there.0, (omega (arith, there.1.0, there.1.1.0), (omega (arith, there.1.1.0), rw (is, same) there.1.1.1)))
        | inr other ↦ rw (get_or-set_other fours four k slot 0 other) (c.loop-four.invariant.there k (omega arith))
      ];
      last = λ at h w. elim (cases_lt at (4 * four)) [
        | inl before ↦ rw (get_or-set_other fours four (at / 4) slot 0 (omega arith)) (c.loop-four.invariant.last at before w)
        | inr here ↦ (let is : at / 4 ≡ four = omega arith in rw (is, same) (c.last_of-last.ensures.last at (omega arith) (grind arith)))
      ];
      above = λ at h w. elim (cases_lt at (4 * four)) [
        | inl before ↦ (let was = c.loop-four.invariant.above at before w in grind arith)
        | inr here ↦ (let now = c.last_of-last.ensures.last at (omega arith) (grind arith) in grind arith)
      ];
      is = elim (cases_lt c.loop-four.top.crest (get_or ends slot 0)) [
        | inl more ↦ inr (there.0, (omega (arith, there.1.1.0), rw there.1.1.1 (grind arith)))
        | inr same ↦ (let is : c.max.result ≡ c.loop-four.top.crest = grind arith in rw is c.loop-four.invariant.is)
      ];
    }

pub returns : goal.returns
returns c =
    let so_far = c.loop-four.invariant in
    record {
      there = λ four h. so_far.there four (omega arith);
      last = λ at h. so_far.last at (omega arith) h;
      crest = greatest_map (λ slot. get_or c.args.ends.now slot 0) c.args.slots.now c.loop-four.top.crest
          (λ at h. so_far.above at (omega arith) h) so_far.is;
    }
