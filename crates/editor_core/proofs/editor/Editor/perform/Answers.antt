-- The parts of a command's output, one behind the other.
use Rattle.std.proofs.Common.{◌≡◌, ◌++◌, map, rules}
use Rattle.trace_model.specs.Items.{items_of}
use Rattle.trace_model.specs.Printed.{header_line}
use Rattle.trace_model.specs.Output.{name_of}
use Rattle.editor_core.specs.Editors.{session_with}
use Rattle.editor_core.proofs.ItemRuns.{comes-before, comes-still}
use Rattle.editor_core.proofs.Turns.{turns-planned, fits-planned}
use Rattle.editor_core.proofs.Commands.{parts-of, parts-bytes, parts-session}
use Rattle.editor_core.proofs.editor.Editor.perform.Goals as goal

pub returns-in_err-print_header-clause-within : goal.returns-in_err-print_header-clause-within
returns-in_err-print_header-clause-within g c = comes-before _ _ _

pub returns-in_err-planned-clause-within : goal.returns-in_err-planned-clause-within
returns-in_err-planned-clause-within g c = comes-before _ _ _

pub returns-in_err-reply-clause-within : goal.returns-in_err-reply-clause-within
returns-in_err-reply-clause-within g c = comes-still _ _ _ _ c.in_err-reply.ensures.state

pub run-requires-clause-fitting : goal.run-requires-clause-fitting
run-requires-clause-fitting g c = fits-planned _ _ _ c.in_ok-planned.ensures c.requires.fitting

pub run-requires-clause-turns : goal.run-requires-clause-turns
run-requires-clause-turns g c = turns-planned _ _ _ _ _ c.in_ok-planned.ensures

pub returns-clause-bytes : goal.returns-clause-bytes
returns-clause-bytes g c =
    let minds = map (λ b. (goal.Watcher-dyn g (b.vtable, b.value)).mind b.value) c.args.shelf.now.items in
    let plans : c.in_ok-planned.planned ≡ items_of c.args.self.now.state c.args.command.now = search rules in
    let heads : c.print_header.new.out.items ≡ c.args.out.now.items ++ header_line c.args.number (name_of c.args.command.now) = search rules in
    parts-bytes (parts-of {session = session_with c.args.self.now minds} plans heads c.in_ok-reply.ensures.bytes c.in_ok-reply.ensures.setup
    c.in_ok-reply.ensures.state c.in_ok-reply.ensures.nesting c.in_ok-reply.ensures.last c.in_ok-run.ensures.bytes c.in_ok-run.ensures.text
    c.in_ok-run.ensures.minds c.in_ok-run.ensures.nesting c.in_ok-run.ensures.last c.in_ok-report.ensures.bytes c.in_ok-report.ensures.state
    c.in_ok-report.ensures.nesting c.in_ok-report.ensures.last)

pub returns-clause-session : goal.returns-clause-session
returns-clause-session g c =
    let minds = map (λ b. (goal.Watcher-dyn g (b.vtable, b.value)).mind b.value) c.args.shelf.now.items in
    let plans : c.in_ok-planned.planned ≡ items_of c.args.self.now.state c.args.command.now = search rules in
    let heads : c.print_header.new.out.items ≡ c.args.out.now.items ++ header_line c.args.number (name_of c.args.command.now) = search rules in
    parts-session (parts-of {session = session_with c.args.self.now minds} plans heads c.in_ok-reply.ensures.bytes c.in_ok-reply.ensures.setup
    c.in_ok-reply.ensures.state c.in_ok-reply.ensures.nesting c.in_ok-reply.ensures.last c.in_ok-run.ensures.bytes c.in_ok-run.ensures.text
    c.in_ok-run.ensures.minds c.in_ok-run.ensures.nesting c.in_ok-run.ensures.last c.in_ok-report.ensures.bytes c.in_ok-report.ensures.state
    c.in_ok-report.ensures.nesting c.in_ok-report.ensures.last)
