-- Where the verdict is done, every test was passed.
use Rattle.std.proofs.Common.{◌≡◌, ap, refl, sym, ◌∙◌, w32}
use Rattle.std.proofs.lemmas.Int.{to_z-of_z}
use Rattle.edit_base.specs.declared.verdicts.Verdict.TheVariants.{Done}
use Rattle.edit_model.proofs.Tables.{least_place, least_end, ordered_places, greatest_place}
use Rattle.edit_model.proofs.EditedStates.{Passes, passes}
use Rattle.text_cut.specs.Halves.{joined}
use Rattle.span_changes.specs.Rows.{state_with}
use Rattle.replace_engine.proofs.text.SpannedText.judge_replacement.Goals as goal

pub returns-clause-verdict : goal.returns-clause-verdict
returns-clause-verdict c =
    let state : state_with (joined c.halves_of.result) c.index.result.now ≡ c.args.self.now.state =
    rw (c.halves_of.ensures.joined, c.index.ensures.spans, ap (λ seen. seen.state.units) c.self.view_is) refl in
    λ slots. rw (← state, ← to_z-of_z w32 c.args.start c.ranges.start, ← to_z-of_z w32 c.args.end c.ranges.end) (c.judge_replace.ensures.verdict slots)

passed : (c : goal.After-judge_replace) → c.judge_replace.result ≡ Done → Passes c.args.self.now.state c.args.start c.args.end c.args.incoming.now
passed c is_done = passes c.args.self.now.state 0 c.args.start c.args.end c.args.incoming.now (sym (returns-clause-verdict c 0) ∙ is_done)

pub returns-clause-least : goal.returns-clause-least
returns-clause-least c = λ is_done. least_place _ c.args.start c.args.end (passed c is_done).places

pub returns-clause-least_end : goal.returns-clause-least_end
returns-clause-least_end c = λ is_done. least_end _ c.args.start c.args.end (passed c is_done).places

pub returns-clause-order : goal.returns-clause-order
returns-clause-order c = λ is_done. ordered_places _ c.args.start c.args.end (passed c is_done).places

pub returns-clause-within : goal.returns-clause-within
returns-clause-within c = λ is_done. greatest_place _ c.args.start c.args.end (passed c is_done).places

pub returns-clause-limit : goal.returns-clause-limit
returns-clause-limit c = λ is_done. (passed c is_done).short

pub returns-clause-few : goal.returns-clause-few
returns-clause-few c = λ is_done. (passed c is_done).few
