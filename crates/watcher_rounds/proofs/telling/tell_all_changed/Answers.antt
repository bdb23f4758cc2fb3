-- Those so far were told, and one more.
use Rattle.edit_model.specs.Machine.{tell_changed}
use Rattle.watcher_rounds.proofs.Runs.{tells_more, tells_all, passed_among, passed_still, on_err}
use Rattle.watcher_rounds.proofs.telling.tell_all_changed.Goals as goal

pub returns-in_err-tell_changed-clause-err : goal.returns-in_err-tell_changed-clause-err
returns-in_err-tell_changed-clause-err g c begun =
    on_err c.from_residual.result
    (passed_still c.args.text.now.state (g.S.Shelf.minds c.loop-slot.shelf) _ c.loop-slot.log.items _ begun c.in_err-tell_changed.ensures.err
    (passed_among (λ slot. tell_changed slot c.args.event.now) c.args.slots.now c.loop-slot.slot-index (c.loop-slot.invariant.told begun)))

pub loop-slot-preserved : goal.loop-slot-preserved
loop-slot-preserved g c = record {
  shelf = c.in_ok-tell_changed.ensures.shelf;
  told = λ begun. tells_more (λ slot. tell_changed slot c.args.event.now) c.args.slots.now c.loop-slot.slot-index 0 c.loop-slot-test.true
      (c.loop-slot.invariant.told begun) (c.in_ok-tell_changed.ensures.ok begun);
}

pub returns-clause-ok : goal.returns-clause-ok
returns-clause-ok g c begun =
    tells_all (λ slot. tell_changed slot c.args.event.now) c.args.slots.now c.loop-slot.slot-index c.loop-slot-test.false (c.loop-slot.invariant.told begun)
