-- Without slots there are no seats.
use Rattle.std.proofs.Common.{◌∙◌, ap, subst}
use Rattle.edit_model.specs.Rows.{spans_in}
use Rattle.edit_model.specs.WellFormed.{IsSeated}
use Rattle.watcher_rounds.proofs.Beside.{none_seated}
use Rattle.watcher_rounds.proofs.seats.seats.Goals as goal

pub returns-then-slots-eq0-clause-seats : goal.returns-then-slots-eq0-clause-seats
returns-then-slots-eq0-clause-seats g c =
    let state = c.args.text.now.state in
    ap spans_in c.new-rows.ensures.items ∙ none_seated state (subst (λ count. IsSeated count state.spans) c.if-slots-eq0.true c.requires.seated)
