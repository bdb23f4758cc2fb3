-- Each call leads on from where the one before it left off; each early end is a scene that the run comes through.
use Rattle.std.proofs.Common.{◌∙◌, ◌+◌, ◌∷◌, [], drop, refl, sym}
use Rattle.edit_model.specs.Machine.{do_rest, tell_after, rest_of}
use Rattle.watcher_rounds.specs.Rounds.{setup_of, stands, tell_one}
use Rattle.watcher_rounds.proofs.Runs.{passed_here, passed_told, passed_still, on_err, on_err_then, on_ok_then}
use Rattle.watcher_rounds.proofs.Follows.{laws_with_last, told_on, led_none, led_more, passed_more, led_asked, passed_asked, passed_of_spans, led_undone, led_barred, led_begun, passed_begun, led_stop, led_go_on, passed_rest, led_rest, led_from}
use Rattle.watcher_rounds.proofs.rounds.+rounds.Goals as goal

-- ---- ask_all

pub ask_all-loop-slot-init : goal.ask_all-loop-slot-init
ask_all-loop-slot-init g t c =
    let laws = laws_with_last {takes = g.F.Follower.takes} (record { none = g.met.F.Follower.takes_none; both = g.met.F.Follower.takes_both }) in
    let a = c.args in
    record {
      led = led_none laws (setup_of a.round.now) [] (stands a.text.now.state (g.S.Shelf.minds a.shelf.now) a.log.now.items a.spent.now) (a.follower.now, a.text.now.effect);
      ready = c.requires.ready;
      followed = c.requires.followed;
      layout_ground = refl;
    }

pub ask_all-returns-in_err-ask_one-clause-err : goal.ask_all-returns-in_err-ask_one-clause-err
ask_all-returns-in_err-ask_one-clause-err g t c =
    on_err c.from_residual.result
    (passed_more (λ slot. tell_after slot c.args.event.now) c.args.slots.now c.loop-slot.slot-index 0 c.loop-slot-test.true c.loop-slot.invariant.led
    c.in_err-ask_one.ensures.err)

pub ask_all-loop-slot-preserved : goal.ask_all-loop-slot-preserved
ask_all-loop-slot-preserved g t c =
    let laws = laws_with_last {takes = g.F.Follower.takes} (record { none = g.met.F.Follower.takes_none; both = g.met.F.Follower.takes_both }) in
    record {
      led = led_more laws (λ slot. tell_after slot c.args.event.now) c.args.slots.now c.loop-slot.slot-index 0 c.loop-slot-test.true c.loop-slot.invariant.led
          c.in_ok-ask_one.ensures.ok;
      ready = c.in_ok-ask_one.ensures.ready;
      followed = c.in_ok-ask_one.ensures.followed;
      layout_ground = c.in_ok-ask_one.ensures.layout_ground ∙ c.loop-slot.invariant.layout_ground;
    }

-- ---- ask_one

pub ask_one-returns-in_err-answer-clause-err : goal.ask_one-returns-in_err-answer-clause-err
ask_one-returns-in_err-answer-clause-err g t c =
    let a = c.args in
    on_err c.from_residual.result
    (passed_still a.text.now.state (g.S.Shelf.minds a.shelf.now) _ a.log.now.items _ a.spent.now c.in_err-answer.ensures.err
    (passed_here (setup_of a.round.now) (tell_after a.slot a.event.now ∷ [])
    (stands a.text.now.state (g.S.Shelf.minds a.shelf.now) a.log.now.items a.spent.now)))

pub ask_one-returns-clause-ok : goal.ask_one-returns-clause-ok
ask_one-returns-clause-ok g t c = on_ok_then c.do_answer.result c.do_answer.ensures.ok (λ led. told_on (c.in_ok-answer.ensures.ok c.args.spent.now) led)

pub ask_one-returns-clause-err : goal.ask_one-returns-clause-err
ask_one-returns-clause-err g t c = on_err_then c.do_answer.result c.do_answer.ensures.err
    (λ passed. passed_told (c.in_ok-answer.ensures.ok c.args.spent.now) passed)

-- ---- do_answer

pub do_answer-loop-edit-init : goal.do_answer-loop-edit-init
do_answer-loop-edit-init g t c =
    let laws = laws_with_last {takes = g.F.Follower.takes} (record { none = g.met.F.Follower.takes_none; both = g.met.F.Follower.takes_both }) in
    let a = c.args in
    record {
      led = led_none laws (setup_of a.round.now) (rest_of c.as_slice-edit-items.result.now a.depth)
          (stands a.text.now.state (g.S.Shelf.minds a.shelf.now) a.log.now.items a.spent.now) (a.follower.now, a.text.now.effect);
      ready = c.requires.ready;
      followed = c.requires.followed;
      layout_ground = refl;
    }

pub do_answer-returns-in_err-do_edit-clause-err : goal.do_answer-returns-in_err-do_edit-clause-err
do_answer-returns-in_err-do_edit-clause-err g t c =
    on_err c.from_residual.result
    (passed_rest c.as_slice-edit-items.result.now c.args.answer.now.items c.loop-edit.edit-index c.edit-item.result c.args.depth
    c.as_slice-edit-items.ensures.value c.loop-edit-test.true c.edit-item.is c.loop-edit.invariant.led c.in_err-do_edit.ensures.err)

pub do_answer-returns-then-not-branch-clause-ok : goal.do_answer-returns-then-not-branch-clause-ok
do_answer-returns-then-not-branch-clause-ok g t c =
    let laws = laws_with_last {takes = g.F.Follower.takes} (record { none = g.met.F.Follower.takes_none; both = g.met.F.Follower.takes_both }) in
    let edits = c.as_slice-edit-items.result.now in
    let i = c.loop-edit.edit-index in
    led_from edits c.args.answer.now.items c.args.depth c.as_slice-edit-items.ensures.value
    (led_rest laws edits i c.edit-item.result c.args.depth [] c.loop-edit-test.true c.edit-item.is c.loop-edit.invariant.led
    (led_stop (rest_of (drop (i + 1) edits) c.args.depth) c.in_ok-do_edit.field-0 c.if-not-branch.true (c.in_ok-do_edit.ensures.ok (drop (i + 1) edits))))

pub do_answer-loop-edit-preserved : goal.do_answer-loop-edit-preserved
do_answer-loop-edit-preserved g t c =
    let laws = laws_with_last {takes = g.F.Follower.takes} (record { none = g.met.F.Follower.takes_none; both = g.met.F.Follower.takes_both }) in
    let edits = c.as_slice-edit-items.result.now in
    let i = c.loop-edit.edit-index in
    record {
      led = led_rest laws edits i c.edit-item.result c.args.depth (rest_of (drop (i + 1) edits) c.args.depth) c.loop-edit-test.true c.edit-item.is
          c.loop-edit.invariant.led (led_go_on (rest_of (drop (i + 1) edits) c.args.depth) c.in_ok-do_edit.field-0 c.if-not-branch.false
          (c.in_ok-do_edit.ensures.ok (drop (i + 1) edits)));
      ready = c.in_ok-do_edit.ensures.ready;
      followed = c.in_ok-do_edit.ensures.followed;
      layout_ground = c.in_ok-do_edit.ensures.layout_ground ∙ c.loop-edit.invariant.layout_ground;
    }

-- ---- do_edit

pub do_edit-returns-in_err-step-clause-err : goal.do_edit-returns-in_err-step-clause-err
do_edit-returns-in_err-step-clause-err g t c others =
    let a = c.args in
    on_err c.from_residual.result
    (passed_here (setup_of a.round.now) (do_rest a.edit.now others a.depth ∷ [])
    (stands a.text.now.state (g.S.Shelf.minds a.shelf.now) a.log.now.items a.spent.now))

pub do_edit-returns-in_err-log_barred-clause-err : goal.do_edit-returns-in_err-log_barred-clause-err
do_edit-returns-in_err-log_barred-clause-err g t c others =
    let a = c.args in
    on_err c.from_residual-in_err-log_barred.result
    (passed_still a.text.now.state (g.S.Shelf.minds a.shelf.now) _ a.log.now.items _ a.spent.now (refl, c.in_err-log_barred.ensures.err)
    (passed_here (setup_of a.round.now) (do_rest a.edit.now others a.depth ∷ [])
    (stands a.text.now.state (g.S.Shelf.minds a.shelf.now) a.log.now.items a.spent.now)))

pub do_edit-returns-then-is_barred-clause-ok : goal.do_edit-returns-then-is_barred-clause-ok
do_edit-returns-then-is_barred-clause-ok g t c others =
    let laws = laws_with_last {takes = g.F.Follower.takes} (record { none = g.met.F.Follower.takes_none; both = g.met.F.Follower.takes_both }) in
    let a = c.args in
    led_barred laws (setup_of a.round.now) a.edit.now others a.depth c.in_ok-step.step a.text.now.state (g.S.Shelf.minds a.shelf.now) a.log.now.items
    c.log_barred.new.log.items a.spent.now (a.follower.now, a.text.now.effect) c.in_ok-step.ensures.step (c.in_ok-log_barred.ensures.log a.text.now.state)
    (sym c.is_barred.ensures.barred ∙ c.if-is_barred.true)

pub do_edit-judge_and_log-requires-clause-ordered : goal.do_edit-judge_and_log-requires-clause-ordered
do_edit-judge_and_log-requires-clause-ordered g t c = c.in_ok-step.ensures.ordered c.args.text.now.state

pub do_edit-returns-in_err-judged-clause-err : goal.do_edit-returns-in_err-judged-clause-err
do_edit-returns-in_err-judged-clause-err g t c others =
    let a = c.args in
    on_err c.from_residual-in_err-judged.result
    (passed_still a.text.now.state (g.S.Shelf.minds a.shelf.now) _ a.log.now.items _ a.spent.now (refl, c.in_err-judged.ensures.err)
    (passed_here (setup_of a.round.now) (do_rest a.edit.now others a.depth ∷ [])
    (stands a.text.now.state (g.S.Shelf.minds a.shelf.now) a.log.now.items a.spent.now)))

pub do_edit-returns-in_err-set_off-clause-err : goal.do_edit-returns-in_err-set_off-clause-err
do_edit-returns-in_err-set_off-clause-err g t c others =
    let a = c.args in
    let judged = c.in_ok-judged.ensures in
    on_err c.from_residual-in_err-set_off.result
    (passed_begun (setup_of a.round.now) a.edit.now others a.depth c.in_ok-step.step c.in_ok-judged.judged.brought c.in_ok-judged.judged.verdict
    a.text.now.state
    (g.S.Shelf.minds a.shelf.now) a.log.now.items c.judge_and_log.new.log.items a.spent.now c.in_ok-step.ensures.step judged.log
    (sym c.is_barred.ensures.barred ∙ c.if-is_barred.false) judged.brought judged.verdict c.in_err-set_off.ensures.err)

pub do_edit-returns-clause-ok : goal.do_edit-returns-clause-ok
do_edit-returns-clause-ok g t c others =
    let a = c.args in
    let judged = c.in_ok-judged.ensures in
    led_begun (setup_of a.round.now) a.edit.now others a.depth c.in_ok-step.step c.in_ok-judged.judged.brought c.in_ok-judged.judged.verdict a.text.now.state
    (g.S.Shelf.minds a.shelf.now) a.log.now.items c.judge_and_log.new.log.items a.spent.now c.in_ok-step.ensures.step judged.log
    (sym c.is_barred.ensures.barred ∙ c.if-is_barred.false) judged.brought judged.verdict c.in_ok-set_off.ensures.ok

-- ---- ask_of_spans

pub ask_of_spans-loop-callback-init : goal.ask_of_spans-loop-callback-init
ask_of_spans-loop-callback-init g t c =
    let laws = laws_with_last {takes = g.F.Follower.takes} (record { none = g.met.F.Follower.takes_none; both = g.met.F.Follower.takes_both }) in
    let a = c.args in
    record {
      led = led_none laws (setup_of a.round.now) [] (stands a.text.now.state (g.S.Shelf.minds a.shelf.now) a.log.now.items a.spent.now) (a.follower.now, a.text.now.effect);
      ready = c.requires.ready;
      followed = c.requires.followed;
      layout_ground = refl;
    }

pub ask_of_spans-returns-in_err-ask_of_span-clause-err : goal.ask_of_spans-returns-in_err-ask_of_span-clause-err
ask_of_spans-returns-in_err-ask_of_span-clause-err g t c =
    on_err c.from_residual.result
    (passed_more tell_one c.args.told.now c.loop-callback.callback-index _ c.loop-callback-test.true c.loop-callback.invariant.led
    c.in_err-ask_of_span.ensures.err)

pub ask_of_spans-loop-callback-preserved : goal.ask_of_spans-loop-callback-preserved
ask_of_spans-loop-callback-preserved g t c =
    let laws = laws_with_last {takes = g.F.Follower.takes} (record { none = g.met.F.Follower.takes_none; both = g.met.F.Follower.takes_both }) in
    record {
      led = led_more laws tell_one c.args.told.now c.loop-callback.callback-index _ c.loop-callback-test.true c.loop-callback.invariant.led
          c.in_ok-ask_of_span.ensures.ok;
      ready = c.in_ok-ask_of_span.ensures.ready;
      followed = c.in_ok-ask_of_span.ensures.followed;
      layout_ground = c.in_ok-ask_of_span.ensures.layout_ground ∙ c.loop-callback.invariant.layout_ground;
    }

-- ---- ask_of_span

pub ask_of_span-returns-in_err-answer-clause-err : goal.ask_of_span-returns-in_err-answer-clause-err
ask_of_span-returns-in_err-answer-clause-err g t c =
    let a = c.args in
    on_err c.from_residual.result
    (passed_still a.text.now.state (g.S.Shelf.minds a.shelf.now) _ a.log.now.items _ a.spent.now c.in_err-answer.ensures.err
    (passed_here (setup_of a.round.now) (tell_one a.callback.now ∷ [])
    (stands a.text.now.state (g.S.Shelf.minds a.shelf.now) a.log.now.items a.spent.now)))

pub ask_of_span-returns-clause-ok : goal.ask_of_span-returns-clause-ok
ask_of_span-returns-clause-ok g t c = on_ok_then c.do_answer.result c.do_answer.ensures.ok (λ led. told_on (c.in_ok-answer.ensures.ok c.args.spent.now) led)

pub ask_of_span-returns-clause-err : goal.ask_of_span-returns-clause-err
ask_of_span-returns-clause-err g t c = on_err_then c.do_answer.result c.do_answer.ensures.err
    (λ passed. passed_told (c.in_ok-answer.ensures.ok c.args.spent.now) passed)

-- ---- set_off

pub set_off-returns-in_default : goal.set_off-returns-in_default
set_off-returns-in_default g t c =
    let laws = laws_with_last {takes = g.F.Follower.takes} (record { none = g.met.F.Follower.takes_none; both = g.met.F.Follower.takes_both }) in
    let a = c.args in
    record {
      ok = led_undone laws (setup_of a.round.now) a.text.now.state a.depth a.found.now.brought a.found.now.verdict
          (stands a.text.now.state (g.S.Shelf.minds a.shelf.now) a.log.now.items a.spent.now) (a.follower.now, a.text.now.effect) c.in_default.not-Done;
      err = tt;
      ready = c.requires.ready;
      followed = c.requires.followed;
      layout_ground = refl;
    }

pub set_off-returns-in_err-told-clause-err : goal.set_off-returns-in_err-told-clause-err
set_off-returns-in_err-told-clause-err g t c = on_err c.from_residual.result c.in_err-told.ensures.err

pub set_off-returns-in_err-ask_all-clause-err : goal.set_off-returns-in_err-ask_all-clause-err
set_off-returns-in_err-ask_all-clause-err g t c =
    let told = c.in_ok-told.told in
    on_err c.from_residual-in_err-ask_all.result
    (passed_asked told.slots.items c.deref.result.now told.event told.spans.items c.deref.ensures.value c.in_ok-told.ensures.ok c.in_err-ask_all.ensures.err)

pub set_off-returns-clause-ok : goal.set_off-returns-clause-ok
set_off-returns-clause-ok g t c =
    let laws = laws_with_last {takes = g.F.Follower.takes} (record { none = g.met.F.Follower.takes_none; both = g.met.F.Follower.takes_both }) in
    let told = c.in_ok-told.told in
    on_ok_then c.ask_of_spans.result c.ask_of_spans.ensures.ok
    (λ last. led_asked laws told.slots.items c.deref.result.now told.event told.spans.items c.deref-2.result.now c.deref.ensures.value
    c.deref-2.ensures.value c.in_ok-told.ensures.ok c.in_ok-ask_all.ensures.ok last)

pub set_off-returns-clause-err : goal.set_off-returns-clause-err
set_off-returns-clause-err g t c =
    let told = c.in_ok-told.told in
    on_err_then c.ask_of_spans.result c.ask_of_spans.ensures.err
    (λ last. passed_of_spans told.slots.items c.deref.result.now told.event told.spans.items c.deref-2.result.now c.deref.ensures.value
    c.deref-2.ensures.value c.in_ok-told.ensures.ok c.in_ok-ask_all.ensures.ok last)
