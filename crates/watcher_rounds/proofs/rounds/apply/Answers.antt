-- The item's run, with nothing behind it and no effect before it.
use Rattle.watcher_rounds.proofs.Runs.{on_err_then, on_ok_then}
use Rattle.watcher_rounds.proofs.Follows.{runs_led, comes_passed}
use Rattle.watcher_rounds.proofs.Outcomes.{last-outcome}
use Rattle.watcher_rounds.proofs.rounds.apply.Goals as goal

pub returns-clause-ok : goal.returns-clause-ok
returns-clause-ok g c = on_ok_then c.do_item.result c.do_item.ensures.ok (λ led. runs_led led)

pub returns-clause-change : goal.returns-clause-change
returns-clause-change g c = on_ok_then c.do_item.result c.do_item.ensures.ok (λ led. last-outcome g.F.Follower.takes led)

pub returns-clause-err : goal.returns-clause-err
returns-clause-err g c = on_err_then c.do_item.result c.do_item.ensures.err (λ passed. comes_passed passed)
