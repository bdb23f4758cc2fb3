-- What an editor stands for, and what stands where a command of it is broken off.
use Rattle.std.specs.Prelude.{ℕ, ◌≡◌, ◌≢◌, Bool, true, false, List, [], ◌∷◌, map}
use Rattle.edit_base.specs.declared.verdicts.Verdict.TheVariants.{Done}
use Rattle.trace_model.specs.declared.commands.Command.{Command}
use Rattle.trace_model.specs.declared.commands.Command.TheVariants as commands
use Rattle.edit_model.specs.declared.items.Item.{Item}
use Rattle.trace_model.specs.declared.reports.Report.{Report}
use Rattle.edit_model.specs.State.{State, empty_state}
use Rattle.edit_model.specs.Minds.{Mind}
use Rattle.edit_model.specs.Fitting.{HasTurn}
use Rattle.edit_model.specs.Verdicts.{judged_range}
use Rattle.trace_model.specs.Items.{items_of, items_in}
use Rattle.edit_model.specs.Machine.{Setup, Scene, Task, Reaches, at, run_item}
use Rattle.edit_model.specs.Outcome.{outcome}
use Rattle.trace_model.specs.Output.{Session, standing, scene_of}
use Rattle.trace_model.specs.Report.{no_report}

-- what contracts see of an editor: what its commands run under, its text, how many batches are open, the last report, and
-- whether it has met want of memory
pub record Editing : Type 0 where
  pub setup : Setup
  pub state : State
  pub nesting : ℕ
  pub last : Report
  pub is_spent : Bool

-- before the first command
abbrev pub fresh : Setup → Editing
fresh r = record { setup = r; state = empty_state; nesting = 0; last = no_report; is_spent = false }

-- after want of memory
abbrev pub spent : Editing → Editing
spent editor = record { setup = editor.setup; state = editor.state; nesting = editor.nesting; last = editor.last; is_spent = true }

-- what stands between two commands, with the minds of the shelf
abbrev pub session_with : Editing → List Mind → Session
session_with editor minds = standing editor.state minds editor.nesting editor.last

-- no span is looked for: the command isn't the query of spans, or its range is refused
abbrev pub FindsNoSpan : State → Command → Type 0
FindsNoSpan state (commands.SpansOver start end) = judged_range state start end ≢ Done
FindsNoSpan state asked = Unit {0}

-- no work is done for a command: it has no items, and no span is looked for
abbrev pub IsIdle : State → Command → Type 0
IsIdle state asked = (items_in (items_of state asked) ≡ []) × FindsNoSpan state asked

-- each item may have its turn, where those before it have come to their outcomes
abbrev pub HaveTurns : Setup → List Item → Scene → Type 0
HaveTurns r [] s = Unit {0}
HaveTurns r (it ∷ items) s = HasTurn s.state it × HaveTurns r items (outcome r it s)

-- the run of items comes through this text and these minds, whatever is left to do there
pub record ComesBy (r : Setup) (items : List Item) (old : Scene) (state : State) (minds : List Mind) : Type 0 where
  pub scene : Scene
  pub agenda : List Task
  pub text : state ≡ scene.state
  pub shelf : minds ≡ scene.minds
  pub through : Reaches r (at old (map run_item items)) (at scene agenda)

-- so does the run of a command
abbrev pub StoodBy : Setup → Command → Session → State → List Mind → Type 0
StoodBy r asked old state minds = ComesBy r (items_in (items_of old.state asked)) (scene_of old) state minds
