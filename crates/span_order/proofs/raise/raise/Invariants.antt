-- The blocks so far have their tops.
use Rattle.span_order.specs.Topped.{IsToppedBut}
use Rattle.span_order.proofs.raise.raise.Given as goal

abbrev pub invariant-loop-block : goal.invariant-loop-block
invariant-loop-block l = IsToppedBut l.ends l.order.blocks l.tops l.block l.to
