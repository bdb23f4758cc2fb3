-- Those over the range among all seats.
use Rattle.std.proofs.Common.{◌≡◌, ◌∙◌, rules}
use Rattle.std.proofs.lemmas.Result.{IfOk-weaker}
use Rattle.edit_model.specs.State.{place}
use Rattle.watcher_rounds.proofs.Beside.{over_range, told_text, below_count}
use Rattle.watcher_rounds.proofs.seats.listeners.Goals as goal

pub returns-in-Replace-clause-listeners : goal.returns-in-Replace-clause-listeners
returns-in-Replace-clause-listeners c =
    let state = c.args.text.now.state in
    let start : c.place_of.result ≡ place c.in-Replace.start = search rules in
    let end : c.place_of-in-Replace.result ≡ place c.in-Replace.end = search rules in
    IfOk-weaker c.slots_over.result _ _ (λ slots found. found
    ∙ (over_range state c.place_of.result c.place_of-in-Replace.result _ c.len.ensures.well_formed c.requires.seats
    ∙ told_text state c.args.step.now _ _ _ _ _ c.in-Replace.is start end)) c.slots_over.ensures

pub returns-in-Replace-clause-seated : goal.returns-in-Replace-clause-seated
returns-in-Replace-clause-seated c count seated =
    let state = c.args.text.now.state in
    IfOk-weaker c.slots_over.result _ _ (λ slots found. below_count state count c.place_of.result c.place_of-in-Replace.result slots.items seated
    (found ∙ over_range state c.place_of.result c.place_of-in-Replace.result _ c.len.ensures.well_formed c.requires.seats)) c.slots_over.ensures
