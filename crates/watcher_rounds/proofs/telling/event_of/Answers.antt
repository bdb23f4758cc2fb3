-- The places lie in the text, in order, and the text isn't too long then.
use Rattle.std.proofs.Common.{◌≡◌, subst, arith, rules}
use Rattle.edit_base.specs.declared.verdicts.Verdict.TheVariants.{Done}
use Rattle.edit_model.specs.declared.steps.Step.{Step}
use Rattle.edit_model.specs.State.{place}
use Rattle.edit_model.specs.Verdicts.{judged}
use Rattle.edit_model.proofs.EditedStates.{passes}
use Rattle.watcher_rounds.proofs.telling.event_of.Goals as goal

pub overflow_sub-result : goal.overflow_sub-result
overflow_sub-result c =
    let done = subst (λ (asked : Step). judged c.args.text.now.state c.args.slots asked ≡ Done) c.in-Replace.is c.requires in
    let p = passes c.args.text.now.state c.args.slots c.in-Replace.start c.in-Replace.end c.in-Replace.incoming done in
    let start : c.place_of-in-Replace-2.result ≡ place c.in-Replace.start = search rules in
    let end : c.place_of-in-Replace.result ≡ place c.in-Replace.end = search rules in
    omega (arith, start, end, p.places.ordered)

pub overflow_cast-result : goal.overflow_cast-result
overflow_cast-result c =
    let done = subst (λ (asked : Step). judged c.args.text.now.state c.args.slots asked ≡ Done) c.in-Replace.is c.requires in
    let p = passes c.args.text.now.state c.args.slots c.in-Replace.start c.in-Replace.end c.in-Replace.incoming done in
    omega (arith, p.short, c.len-in-Replace.ensures)

pub returns-in-Replace-clause-told : goal.returns-in-Replace-clause-told
returns-in-Replace-clause-told c =
    let done = subst (λ (asked : Step). judged c.args.text.now.state c.args.slots asked ≡ Done) c.in-Replace.is c.requires in
    let p = passes c.args.text.now.state c.args.slots c.in-Replace.start c.in-Replace.end c.in-Replace.incoming done in
    let start : c.place_of.result ≡ place c.in-Replace.start = search rules in
    let end : c.place_of-in-Replace.result ≡ place c.in-Replace.end = search rules in
    record {
      start = omega (arith, start, p.places.ordered, p.places.within, c.len.ensures.limit, c.len.ensures.len);
      before = omega (arith, end, p.places.within, c.len.ensures.limit, c.len.ensures.len);
      after = omega (arith, p.short, c.len-in-Replace.ensures);
    }
