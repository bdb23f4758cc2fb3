-- Each call leads on from where the one before it left off; each early end is a scene that the run comes through.
use Rattle.std.proofs.Common.{◌∙◌, [], sym, ap, subst}
use Rattle.edit_model.specs.Rows.{spans_in}
use Rattle.edit_model.specs.WellFormed.{IsSeated}
use Rattle.edit_model.specs.Changed.{on_done}
use Rattle.edit_model.specs.Machine.{events}
use Rattle.watcher_rounds.specs.Rounds.{setup_of, slot_count, stands, TakesLast}
use Rattle.watcher_rounds.proofs.Beside.{are_told, may_be_told}
use Rattle.watcher_rounds.proofs.Runs.{passed_here, on_err}
use Rattle.watcher_rounds.proofs.Follows.{sets_off_done, led_change, passed_change, led_carried, passed_before, passed_at_change, passed_changed}
use Rattle.watcher_rounds.proofs.changing.carry_out.Goals as goal

pub returns-in_err-rows-clause-err : goal.returns-in_err-rows-clause-err
returns-in_err-rows-clause-err g c =
    let a = c.args in
    on_err c.from_residual.result
    (passed_here (setup_of a.round.now) (on_done a.found.now.verdict (events a.text.now.state a.depth a.found.now.brought) [])
    (stands a.text.now.state (g.S.Shelf.minds a.shelf.now) a.log.now.items a.spent))

pub returns-in_err-slots-clause-err : goal.returns-in_err-slots-clause-err
returns-in_err-slots-clause-err g c =
    let a = c.args in
    on_err c.from_residual-in_err-slots.result
    (passed_here (setup_of a.round.now) (on_done a.found.now.verdict (events a.text.now.state a.depth a.found.now.brought) [])
    (stands a.text.now.state (g.S.Shelf.minds a.shelf.now) a.log.now.items a.spent))

pub returns-in_err-tell_all_before-clause-err : goal.returns-in_err-tell_all_before-clause-err
returns-in_err-tell_all_before-clause-err g c =
    let a = c.args in
    on_err c.from_residual-in_err-tell_all_before.result
    (passed_before a.text.now.state a.depth a.found.now.brought c.as_slice-told.result.now c.event_of-event.result a.found.now.verdict c.requires.done
    (c.as_slice-told.ensures.value ∙ c.in_ok-slots.ensures.listeners) c.event_of-event.ensures.event (c.in_err-tell_all_before.ensures.err a.spent))

pub returns-in_err-change-clause-err : goal.returns-in_err-change-clause-err
returns-in_err-change-clause-err g c =
    let a = c.args in
    on_err c.from_residual-in_err-change.result
    (passed_at_change a.text.now.state a.depth a.found.now.brought c.as_slice-told.result.now c.event_of-event.result a.found.now.verdict c.requires.done
    (c.as_slice-told.ensures.value ∙ c.in_ok-slots.ensures.listeners) c.event_of-event.ensures.event (c.in_ok-tell_all_before.ensures.ok a.spent)
    (passed_change (setup_of a.round.now) a.found.now.brought a.text.now.state c.change.new.text.state (g.S.Shelf.minds c.tell_all_before.new.shelf)
    c.tell_all_before.new.log.items a.spent c.in_err-change.ensures.err))

pub returns-in_err-spans-clause-err : goal.returns-in_err-spans-clause-err
returns-in_err-spans-clause-err g c =
    let a = c.args in
    let change = led_change {takes = TakesLast g.F.Follower.takes} (setup_of a.round.now) a.found.now.brought a.text.now.state c.change.new.text.state
    (g.S.Shelf.minds c.tell_all_before.new.shelf) c.tell_all_before.new.log.items a.spent (a.follower.now, a.text.now.effect)
    (c.change.new.follower, c.change.new.text.effect) c.in_ok-change.ensures.state
    (c.in_ok-change.ensures.takes, c.in_ok-change.ensures.effect) in
    on_err c.from_residual-in_err-spans.result
    (passed_changed a.text.now.state a.depth a.found.now.brought c.as_slice-told.result.now c.event_of-event.result a.found.now.verdict c.requires.done
    (c.as_slice-told.ensures.value ∙ c.in_ok-slots.ensures.listeners) c.event_of-event.ensures.event (c.in_ok-tell_all_before.ensures.ok a.spent) change
    (passed_here (setup_of a.round.now) _
    (stands c.change.new.text.state (g.S.Shelf.minds c.tell_all_before.new.shelf) c.tell_all_before.new.log.items a.spent)))

pub returns-in_err-tell_all_changed-clause-err : goal.returns-in_err-tell_all_changed-clause-err
returns-in_err-tell_all_changed-clause-err g c =
    let a = c.args in
    let change = led_change {takes = TakesLast g.F.Follower.takes} (setup_of a.round.now) a.found.now.brought a.text.now.state c.change.new.text.state
    (g.S.Shelf.minds c.tell_all_before.new.shelf) c.tell_all_before.new.log.items a.spent (a.follower.now, a.text.now.effect)
    (c.change.new.follower, c.change.new.text.effect) c.in_ok-change.ensures.state
    (c.in_ok-change.ensures.takes, c.in_ok-change.ensures.effect) in
    on_err c.from_residual-in_err-tell_all_changed.result
    (passed_changed a.text.now.state a.depth a.found.now.brought c.as_slice-told.result.now c.event_of-event.result a.found.now.verdict c.requires.done
    (c.as_slice-told.ensures.value ∙ c.in_ok-slots.ensures.listeners) c.event_of-event.ensures.event (c.in_ok-tell_all_before.ensures.ok a.spent) change
    (c.in_err-tell_all_changed.ensures.err a.spent))

pub returns-clause-ok : goal.returns-clause-ok
returns-clause-ok g c =
    let a = c.args in
    let asked = a.found.now.brought in
    let change = led_change {takes = TakesLast g.F.Follower.takes} (setup_of a.round.now) asked a.text.now.state c.change.new.text.state
    (g.S.Shelf.minds c.tell_all_before.new.shelf) c.tell_all_before.new.log.items a.spent (a.follower.now, a.text.now.effect)
    (c.change.new.follower, c.change.new.text.effect) c.in_ok-change.ensures.state
    (c.in_ok-change.ensures.takes, c.in_ok-change.ensures.effect) in
    let told = are_told a.depth a.text.now.state c.change.new.text.state asked c.change.new.text.effect (spans_in c.as_slice-before.result.now)
    c.in_ok-spans.spans.items c.in_ok-rows.ensures.well_formed c.in_ok-spans.ensures.well_formed
    (ap spans_in c.as_slice-before.ensures.value ∙ c.in_ok-rows.ensures.seats) c.in_ok-change.ensures.state c.in_ok-change.ensures.effect
    c.in_ok-spans.ensures.told in
    led_carried c.in_ok-slots.slots.items c.as_slice-told.ensures.value
    (sets_off_done a.text.now.state a.depth asked a.found.now.verdict c.as_slice-told.result.now c.event_of-event.result c.in_ok-spans.spans.items
    c.requires.done (c.as_slice-told.ensures.value ∙ c.in_ok-slots.ensures.listeners) c.event_of-event.ensures.event told)
    (c.in_ok-tell_all_before.ensures.ok a.spent) change (c.in_ok-tell_all_changed.ensures.ok a.spent)

pub returns-clause-spans : goal.returns-clause-spans
returns-clause-spans g c =
    let a = c.args in
    let asked = a.found.now.brought in
    let told = are_told a.depth a.text.now.state c.change.new.text.state asked c.change.new.text.effect (spans_in c.as_slice-before.result.now)
    c.in_ok-spans.spans.items c.in_ok-rows.ensures.well_formed c.in_ok-spans.ensures.well_formed
    (ap spans_in c.as_slice-before.ensures.value ∙ c.in_ok-rows.ensures.seats) c.in_ok-change.ensures.state c.in_ok-change.ensures.effect
    c.in_ok-spans.ensures.told in
    let count = c.len-count.ensures.value in
    let seated = subst (λ n. IsSeated n c.change.new.text.state.spans) count
    (c.in_ok-change.ensures.seated (subst (λ n. IsSeated n a.text.now.state.spans) (sym count) c.requires.ready.seated)) in
    may_be_told (slot_count a.round.now) a.depth a.text.now.state c.change.new.text.state asked c.in_ok-spans.spans.items
    c.in_ok-rows.ensures.well_formed c.in_ok-spans.ensures.well_formed c.requires.ready.seated seated
    c.in_ok-change.ensures.state told
