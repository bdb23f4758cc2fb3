-- What a line gives, by what was read.
use Rattle.std.proofs.Common.{map}
use Rattle.editor_core.specs.Editors.{session_with}
use Rattle.replay_cli.proofs.LineRuns.{fits-line_kind, blank-goes, faulty-stops, command-goes}
use Rattle.replay_cli.proofs.player.run_line.Goals as goal

pub write_command-requires-clause-fitting : goal.write_command-requires-clause-fitting
write_command-requires-clause-fitting g c =
    fits-line_kind c.in-Ok-Command.command c.args.line.now (rw c.in-Ok-Command.field-0-is at c.in-Ok-Command.ensures)

pub returns-in-Ok-Blank-clause-gives : goal.returns-in-Ok-Blank-clause-gives
returns-in-Ok-Blank-clause-gives g c =
    let minds = map (λ b. (goal.Watcher-dyn g (b.vtable, b.value)).mind b.value) c.args.shelf.now.items in
    blank-goes c.args.editor.now.setup c.args.number (session_with c.args.editor.now minds) c.args.line.now _
    (rw c.in-Ok-Blank.field-0-is at c.in-Ok-Blank.ensures)

pub returns-in-Ok-Faulty-clause-gives : goal.returns-in-Ok-Faulty-clause-gives
returns-in-Ok-Faulty-clause-gives g c =
    let minds = map (λ b. (goal.Watcher-dyn g (b.vtable, b.value)).mind b.value) c.args.shelf.now.items in
    faulty-stops c.args.editor.now.setup c.args.number (session_with c.args.editor.now minds) c.args.line.now _
    c.in-Ok-Faulty.kind (rw c.in-Ok-Faulty.field-0-is at c.in-Ok-Faulty.ensures)

pub returns-in-Ok-Command-clause-gives : goal.returns-in-Ok-Command-clause-gives
returns-in-Ok-Command-clause-gives g c =
    let minds = map (λ b. (goal.Watcher-dyn g (b.vtable, b.value)).mind b.value) c.args.shelf.now.items in
    let kept = map (λ b. (goal.Watcher-dyn g (b.vtable, b.value)).mind b.value) c.write_command.new.shelf.items in
    command-goes c.args.editor.now.setup c.args.number (session_with c.args.editor.now minds) c.args.line.now
    c.in-Ok-Command.command (session_with c.write_command.new.editor kept) c.write_command.result _ _
    (rw c.in-Ok-Command.field-0-is at c.in-Ok-Command.ensures) c.write_command.ensures.gives
