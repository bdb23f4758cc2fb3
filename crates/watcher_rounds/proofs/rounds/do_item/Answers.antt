-- The item's edit is judged and logged, and what it sets off leads on from there.
use Rattle.std.proofs.Common.{◌∷◌, [], refl}
use Rattle.edit_model.specs.Machine.{run_item}
use Rattle.watcher_rounds.specs.Rounds.{setup_of, stands}
use Rattle.watcher_rounds.proofs.Judgements.{own-let_in, verdict-found}
use Rattle.watcher_rounds.proofs.Runs.{passed_here, passed_still, on_err}
use Rattle.watcher_rounds.proofs.Follows.{led_item, passed_item}
use Rattle.watcher_rounds.proofs.rounds.do_item.Goals as goal

pub returns-in_err-step-clause-err : goal.returns-in_err-step-clause-err
returns-in_err-step-clause-err g c =
    let a = c.args in
    on_err c.from_residual.result
    (passed_here (setup_of a.round.now) (run_item a.item.now ∷ []) (stands a.text.now.state (g.S.Shelf.minds a.shelf.now) a.log.now.items a.spent.now))

pub judge_and_log-requires-clause-begins : goal.judge_and_log-requires-clause-begins
judge_and_log-requires-clause-begins g c = own-let_in c.args.round.now.depth c.args.spent.now

pub returns-in_err-judged-clause-err : goal.returns-in_err-judged-clause-err
returns-in_err-judged-clause-err g c =
    let a = c.args in
    on_err c.from_residual-in_err-judged.result
    (passed_still a.text.now.state (g.S.Shelf.minds a.shelf.now) _ a.log.now.items _ a.spent.now (refl, c.in_err-judged.ensures.err)
    (passed_here (setup_of a.round.now) (run_item a.item.now ∷ []) (stands a.text.now.state (g.S.Shelf.minds a.shelf.now) a.log.now.items a.spent.now)))

pub returns-in_err-set_off-clause-err : goal.returns-in_err-set_off-clause-err
returns-in_err-set_off-clause-err g c =
    let a = c.args in
    let judged = c.in_ok-judged.ensures in
    on_err c.from_residual-in_err-set_off.result
    (passed_item (setup_of a.round.now) a.item.now c.in_ok-step.step c.in_ok-judged.judged.brought c.in_ok-judged.judged.verdict a.text.now.state
    (g.S.Shelf.minds a.shelf.now) a.log.now.items c.judge_and_log.new.log.items a.spent.now c.in_ok-step.ensures.step judged.log
    (own-let_in a.round.now.depth a.spent.now) judged.brought judged.verdict c.in_err-set_off.ensures.err)

pub returns-clause-ok : goal.returns-clause-ok
returns-clause-ok g c =
    let a = c.args in
    let judged = c.in_ok-judged.ensures in
    led_item (setup_of a.round.now) a.item.now c.in_ok-step.step c.in_ok-judged.judged.brought c.in_ok-judged.judged.verdict a.text.now.state
    (g.S.Shelf.minds a.shelf.now) a.log.now.items c.judge_and_log.new.log.items a.spent.now c.in_ok-step.ensures.step judged.log
    (own-let_in a.round.now.depth a.spent.now) judged.brought judged.verdict c.in_ok-set_off.ensures.ok

pub returns-clause-verdict : goal.returns-clause-verdict
returns-clause-verdict g c =
    let a = c.args in
    let judged = c.in_ok-judged.ensures in
    verdict-found (setup_of a.round.now) 0 c.in_ok-step.step _ c.in_ok-judged.judged.brought a.text.now.state a.spent.now c.in_ok-judged.judged.verdict
    (own-let_in a.round.now.depth a.spent.now) c.in_ok-step.ensures.step judged.brought judged.verdict
