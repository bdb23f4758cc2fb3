-- What stands between both places has another number there.
use Rattle.std.proofs.Common.{◌≡◌, ◌+◌, ◌-◌, ◌*◌, true, get_or, inl, inr, ap, sym, ◌∙◌, arith}
use Rattle.std.proofs.lemmas.Bool.{cases_Bool, cond-true, cond-false}
use Rattle.slot_ranks.specs.Slots.{is_among}
use Rattle.span_table.specs.Numbers.{crosses}
use Rattle.span_table.specs.Slots.{IsShut}
use Rattle.span_table.proofs.Ends.{fallen, risen}
use Rattle.span_table.proofs.Runs.{all_among}
use Rattle.span_table.proofs.slots.bring_run.Goals as goal

pub returns-then-to-gap : goal.returns-then-to-gap
returns-then-to-gap c = λ slot.
    let gap = c.args.gap in
    let to = c.args.to in
    let room = c.args.room in
    let run = c.args.run.now in
    let number = get_or c.args.numbers.now slot 0 in
    let by : c.from-by.result ≡ room = omega arith in
    elim (cases_Bool (is_among run slot)) [
      | inl among ↦ c.raise_run.ensures slot ∙ cond-true _ _ _ among ∙ ap (λ n. number + 2 * n) by
          ∙ risen gap to room number (all_among (λ k. IsShut gap room (get_or c.args.numbers.now k 0)) run slot c.requires.valid among) (omega arith)
          (all_among (λ k. crosses gap to room (get_or c.args.numbers.now k 0) ≡ true) run slot c.requires.between among)
          ∙ sym (cond-true _ _ _ among)
      | inr other ↦ c.raise_run.ensures slot ∙ cond-false _ _ _ other ∙ sym (cond-false _ _ _ other)
    ]

pub returns-else-to-gap : goal.returns-else-to-gap
returns-else-to-gap c = λ slot.
    let gap = c.args.gap in
    let to = c.args.to in
    let room = c.args.room in
    let run = c.args.run.now in
    let number = get_or c.args.numbers.now slot 0 in
    let by : c.from-by.result ≡ room = omega arith in
    elim (cases_Bool (is_among run slot)) [
      | inl among ↦ c.lower_run.ensures slot ∙ cond-true _ _ _ among ∙ ap (λ n. number - 2 * n) by
          ∙ fallen gap to room number (all_among (λ k. IsShut gap room (get_or c.args.numbers.now k 0)) run slot c.requires.valid among) (omega arith)
          (all_among (λ k. crosses gap to room (get_or c.args.numbers.now k 0) ≡ true) run slot c.requires.between among)
          ∙ sym (cond-true _ _ _ among)
      | inr other ↦ c.lower_run.ensures slot ∙ cond-false _ _ _ other ∙ sym (cond-false _ _ _ other)
    ]
