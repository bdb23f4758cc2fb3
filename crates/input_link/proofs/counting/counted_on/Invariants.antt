-- What is left to count, from the place that was reached, comes to the same place. The steps are within the units that were passed.
use Rattle.std.proofs.Common.{◌≡◌, ◌≤◌, ◌+◌, ◌-◌, length}
use Rattle.text_cut.specs.Halves.{joined}
use Rattle.trace_model.specs.Items.{counted_on}
use Rattle.input_link.specs.Looked.{looked_on}
use Rattle.input_link.proofs.counting.counted_on.Given as goal

abbrev pub invariant-loop-left : goal.invariant-loop-left
invariant-loop-left g l = record {
  behind : l.at ≤ l.place;
  within : l.place ≤ length (joined l.text);
  same : counted_on (joined l.text) l.left l.place ≡ counted_on (joined l.text) l.count l.at;
  passed : l.steps ≤ l.fn.steps + (l.place - l.at);
  looked : l.steps + looked_on (joined l.text) l.left l.place ≤ l.fn.steps + looked_on (joined l.text) l.count l.at;
}

abbrev pub decreases-loop-left : goal.decreases-loop-left
decreases-loop-left g l = l.left
