-- The lines so far have given their output, and the others give the rest.
use Rattle.std.proofs.Common.{◌≡◌, ◌≤◌, ◌+◌, length, map, true}
use Rattle.trace_model.specs.TraceLines.{open_line}
use Rattle.trace_model.specs.Output.{run_lines}
use Rattle.editor_core.specs.Editors.{session_with}
use Rattle.watcher_rounds.specs.Rounds.{AreOnShelf}
use Rattle.replay_cli.specs.Steps.{lines_in, Reached, close_of}
use Rattle.replay_cli.proofs.player.play_lines.Given as goal

abbrev pub invariant-loop-line : goal.invariant-loop-line
invariant-loop-line g l =
    let r = l.fn.editor.setup in
    let first = map (λ b. (goal.Watcher-dyn g (b.vtable, b.value)).mind b.value) l.fn.shelf.items in
    let minds = map (λ b. (goal.Watcher-dyn g (b.vtable, b.value)).mind b.value) l.shelf.items in
    (l.number + length l.rest ≤ length l.fn.trace + 1)
    × Reached (run_lines r (close_of l.fn.is_cut l.fn.trace) 1 (session_with l.fn.editor first) (lines_in l.fn.is_cut l.fn.trace))
    (run_lines r (close_of l.fn.is_cut l.fn.trace) l.number (session_with l.editor minds) (lines_in l.fn.is_cut l.rest)) (g.K.Sink.written l.fn.sink)
    (g.K.Sink.written l.sink)
    × (g.K.Sink.faults l.sink ≡ g.K.Sink.faults l.fn.sink)
    × (l.fn.is_cut ≡ true → open_line l.fn.trace ≡ open_line l.rest)
    × (l.editor.setup ≡ r)
    × AreOnShelf l.editor.setup.slots minds

abbrev pub decreases-loop-line : goal.decreases-loop-line
decreases-loop-line g l = length l.rest
