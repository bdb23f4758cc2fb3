-- What is left to count, from the place that was reached, comes to the same place. The steps are within the units that were passed.
use Rattle.std.proofs.Common.{◌≡◌, ◌≤◌, ◌+◌, ◌-◌}
use Rattle.text_cut.specs.Halves.{joined}
use Rattle.trace_model.specs.Items.{counted_back}
use Rattle.input_link.specs.Looked.{looked_back}
use Rattle.input_link.proofs.counting.counted_back.Given as goal

abbrev pub invariant-loop-left : goal.invariant-loop-left
invariant-loop-left g l = record {
  within : l.place ≤ l.at;
  same : counted_back (joined l.text) l.left l.place ≡ counted_back (joined l.text) l.count l.at;
  passed : l.steps ≤ l.fn.steps + (l.at - l.place);
  looked : l.steps + looked_back (joined l.text) l.left l.place ≤ l.fn.steps + looked_back (joined l.text) l.count l.at;
}

abbrev pub decreases-loop-left : goal.decreases-loop-left
decreases-loop-left g l = l.left
