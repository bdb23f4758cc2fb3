-- The lines so far were counted, and nothing was written.
use Rattle.std.proofs.Common.{◌≡◌, ◌≤◌, ◌+◌, List, length, true}
use Rattle.trace_model.specs.TraceLines.{open_line}
use Rattle.edit_model.specs.Minds.{Mind}
use Rattle.trace_model.specs.Output.{check_lines}
use Rattle.replay_cli.specs.Steps.{lines_in, close_check}
use Rattle.replay_cli.proofs.checker.check_trace.Given as goal

abbrev pub invariant-loop-line : goal.invariant-loop-line
invariant-loop-line g l =
    (l.number + length l.rest ≤ length l.fn.trace + 1)
    × (l.count + 1 ≤ l.number)
    × ((minds : List Mind) → check_lines minds (close_check minds l.fn.is_cut l.fn.trace) 1 0 (lines_in l.fn.is_cut l.fn.trace)
    ≡ check_lines minds (close_check minds l.fn.is_cut l.fn.trace) l.number l.count (lines_in l.fn.is_cut l.rest))
    × (l.fn.is_cut ≡ true → open_line l.fn.trace ≡ open_line l.rest)

abbrev pub decreases-loop-line : goal.decreases-loop-line
decreases-loop-line g l = length l.rest
