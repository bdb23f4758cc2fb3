use Rattle.std.proofs.Common.{◌≡◌, ◌+◌, sym, ap, subst, ◌∙◌, arith, rules}
use Rattle.edit_base.specs.declared.verdicts.Verdict.TheVariants.{Refused}
use Rattle.edit_base.specs.declared.verdicts.Refusal.TheVariants.{SpansFull}
use Rattle.edit_model.specs.declared.steps.Step.{Step}
use Rattle.edit_model.specs.Verdicts.{judged}
use Rattle.edit_model.specs.Log.{span_count_of}
use Rattle.edit_model.proofs.FullTables.{full-adds_one, full-adds_two}
use Rattle.watcher_rounds.proofs.Judgements.{any_slots}
use Rattle.watcher_rounds.proofs.judging.span_count_then.Goals as goal

pub span_count_then-requires-clause-full : goal.span_count_then-requires-clause-full
span_count_then-requires-clause-full c =
    let full = subst (λ (asked : Step). judged c.args.text.now.state c.args.slots asked ≡ Refused SpansFull) c.in-Replace.is c.requires.full in
    let none = any_slots c.args.text.now.state c.args.slots c.in-Replace.start c.in-Replace.end c.in-Replace.incoming (Refused SpansFull) full in
    search (rules, none)

pub returns-in-Set : goal.returns-in-Set
returns-in-Set c =
    let state = c.args.text.now.state in
    let set = c.in-Set in
    let full = subst (λ (asked : Step). judged state c.args.slots asked ≡ Refused SpansFull) set.is c.requires.full in
    ap (λ n. n + 1) c.span_count.ensures.count
    ∙ (sym (full-adds_one state c.args.slots set.id set.start set.end set.flags set.what (omega (arith, c.span_count.ensures.count, c.span_count.ensures.limit))
    full)
    ∙ ap (λ asked. span_count_of state asked) (sym set.is))

pub returns-in-Select : goal.returns-in-Select
returns-in-Select c =
    let state = c.args.text.now.state in
    let select = c.in-Select in
    let full = subst (λ (asked : Step). judged state c.args.slots asked ≡ Refused SpansFull) select.is c.requires.full in
    ap (λ n. n + 2) c.span_count-in-Select.ensures.count
    ∙ (sym (full-adds_two state c.args.slots select.start select.end
    (omega (arith, c.span_count-in-Select.ensures.count, c.span_count-in-Select.ensures.limit)) full)
    ∙ ap (λ asked. span_count_of state asked) (sym select.is))
