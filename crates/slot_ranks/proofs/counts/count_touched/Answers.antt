-- A slot in another block than this one's stays counted.
use Rattle.std.proofs.Common.{◌/◌, inl, inr, get_or, arith, ap, ◌∙◌}
use Rattle.std.proofs.lemmas.Bool.{cases_eq}
use Rattle.slot_ranks.proofs.Counted.{none_left}
use Rattle.slot_ranks.proofs.counts.count_touched.Goals as goal
use Rattle.slot_ranks.proofs.counts.count_touched.Goals.{then-block-last, else-block-last}

pub loop-slot-preserved : goal.loop-slot-preserved
loop-slot-preserved c =
    let at = c.loop-slot.slot-index in
    let slots = c.args.slots.now in
    elim c.if-block-last.branch [
      | then-block-last w ↦ record {
        others = λ k within rest. ap (λ xs. get_or xs k 0) w.inner-is ∙ elim (cases_eq (k / 64) (get_or slots at 0 / 64)) [
          | inl same ↦ w.count_slots.ensures.there k within same
          | inr other ↦ w.count_slots.ensures.others k other ∙ c.loop-slot.invariant.others k within
              (none_left k slots at (omega arith) other rest)
        ];
        last = λ k within same. ap (λ xs. get_or xs k 0) w.inner-is ∙ w.count_slots.ensures.there k within (same ∙ w.last-is);
      }
      | else-block-last w ↦ record {
        others = λ k within rest. ap (λ xs. get_or xs k 0) w.inner-is ∙ elim (cases_eq (k / 64) (get_or slots at 0 / 64)) [
          | inl same ↦ c.loop-slot.invariant.last k within (omega arith)
          | inr other ↦ c.loop-slot.invariant.others k within (none_left k slots at (omega arith) other rest)
        ];
        last = λ k within same. ap (λ xs. get_or xs k 0) w.inner-is ∙ c.loop-slot.invariant.last k within (same ∙ w.last-is);
      }
    ]
