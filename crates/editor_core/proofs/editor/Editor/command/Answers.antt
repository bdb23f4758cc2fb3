-- One that has met want of memory does nothing.
use Rattle.editor_core.proofs.ItemRuns.{comes-before}
use Rattle.editor_core.proofs.editor.Editor.command.Goals as goal

pub returns-then-self-clause-within : goal.returns-then-self-clause-within
returns-then-self-clause-within g c = comes-before _ _ _
