-- One item after another has its turn.
use Rattle.std.proofs.Common.{arith, refl}
use Rattle.editor_core.proofs.ItemRuns.{ran-none, ran-next, ran-broken, ran-all, ran-stands, on-shelf, none_past}
use Rattle.editor_core.proofs.running.run_items.Goals as goal

pub loop-item-init : goal.loop-item-init
loop-item-init g c = record {
  ran = ran-none _ _ _ _ _ c.requires.empty c.requires.turns;
  shelf = c.requires.slots;
  seats = c.requires.seats;
  few = omega arith;
  idle = λ none. refl;
}

pub loop-item-preserved : goal.loop-item-preserved
loop-item-preserved g c = record {
  ran = ran-next _ _ _ _ c.as_slice.ensures c.loop-item-test.true c.item-item.is c.loop-item.invariant.ran c.in_ok-apply.ensures.ok;
  shelf = on-shelf _ _ _ c.apply.ensures.slots;
  seats = c.apply.ensures.seats;
  few = c.apply.ensures.spent;
  idle = λ none. none_past _ c.loop-item-test.true none;
}

pub returns-in_err-apply-clause-within : goal.returns-in_err-apply-clause-within
returns-in_err-apply-clause-within g c =
    ran-broken _ _ _ _ c.as_slice.ensures c.loop-item-test.true c.item-item.is c.loop-item.invariant.ran c.in_err-apply.ensures.err

pub returns-in_err-apply-clause-idle : goal.returns-in_err-apply-clause-idle
returns-in_err-apply-clause-idle g c = λ none. none_past _ c.loop-item-test.true none

pub returns-clause-state : goal.returns-clause-state
returns-clause-state g c = (ran-all c.loop-item-test.false c.loop-item.invariant.ran).0

pub returns-clause-minds : goal.returns-clause-minds
returns-clause-minds g c = (ran-all c.loop-item-test.false c.loop-item.invariant.ran).1

pub returns-clause-log : goal.returns-clause-log
returns-clause-log g c = (ran-all c.loop-item-test.false c.loop-item.invariant.ran).2

pub returns-clause-within : goal.returns-clause-within
returns-clause-within g c = ran-stands c.loop-item.invariant.ran
