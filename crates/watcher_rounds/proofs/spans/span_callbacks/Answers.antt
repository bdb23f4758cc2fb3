-- Where there are no seats nobody is told.
use Rattle.std.proofs.Common.{◌≡◌, ◌∙◌, rules, length, sym}
use Rattle.edit_model.specs.Rows.{spans_in}
use Rattle.watcher_rounds.specs.Seats.{seats_in}
use Rattle.watcher_rounds.proofs.Beside.{no_rows, nobody_told}
use Rattle.watcher_rounds.proofs.spans.span_callbacks.Goals as goal

pub returns-then-is_empty-2-clause-told : goal.returns-then-is_empty-2-clause-told
returns-then-is_empty-2-clause-told g c =
    let state = c.args.text.now.state in
    let none : length c.args.before.now ≡ 0 = search rules in
    let none_after : length c.in_ok-after.after.items ≡ 0 = search rules in
    c.new-told.ensures.items
    ∙ nobody_told c.args.depth (length state.units) (spans_in c.args.before.now) (seats_in state) c.args.text.now.effect
    (no_rows c.args.before.now none) (sym c.in_ok-after.ensures.seats ∙ no_rows c.in_ok-after.after.items none_after)
