-- One line of a run.
use Rattle.std.specs.Prelude.{ℕ, ◌≡◌, ◌+◌, ◌++◌, Bool, true, false, List, [], ◌∷◌, take, if◌then◌else◌, Option, Some, None, Result, Ok, Err}
use Rattle.std.specs.List.{concat}
use Rattle.edit_model.specs.Machine.{Setup}
use Rattle.edit_model.specs.Minds.{Mind}
use Rattle.trace_model.specs.Output as plain
use Rattle.trace_model.specs.Output.{Played, Session, blank, command, faulty, run_lines, check_lines, ended, overrun, checked, overrun_check}
use Rattle.trace_model.specs.TraceLines.{trace_lines, ended_lines, open_line}
use Rattle.replay_io.specs.Outside.{with_more}
use Rattle.replay_cli.specs.declared.lines.LineKind.{LineKind}
use Rattle.replay_cli.specs.declared.lines.LineKind.TheVariants.{Blank, Command, Faulty}
use Rattle.replay_cli.specs.declared.player.LineOutcome.{LineOutcome}
use Rattle.replay_cli.specs.declared.player.LineOutcome.TheVariants.{Next, Stop}
use Rattle.replay_cli.specs.declared.status.Status.{Status}
use Rattle.replay_cli.specs.declared.status.Status.TheVariants as status
use Rattle.replay_cli.specs.Runs.{Ends}

-- ---- the lines

-- the kind that a line was found to be
abbrev pub kind_seen : LineKind → plain.LineKind
kind_seen Blank = blank
kind_seen (Command asked) = command asked
kind_seen (Faulty it) = faulty it

-- the lines of these bytes, or those alone whose end stands in them, where more was cut off
abbrev pub lines_in : Bool → List ℕ → List (List ℕ)
lines_in is_cut bytes = if is_cut then ended_lines bytes else trace_lines bytes

-- what stands behind the lines of a trace, or of the front of one that was cut off
abbrev pub close_of : Bool → List ℕ → ℕ → Session → Played
close_of true trace = overrun (open_line trace)
close_of false trace = ended

-- the same where the lines are read and not run
abbrev pub close_check : List Mind → Bool → List ℕ → ℕ → ℕ → Played
close_check minds true trace = overrun_check minds (open_line trace)
close_check minds false trace = checked minds

-- ---- one line

-- the bytes of several commands in front
abbrev pub behind_all : List (List ℕ) → Played → Played
behind_all pieces played = record { commands = pieces ++ played.commands; last = played.last; ending = played.ending; minds = played.minds }

-- these pieces were written, and the lines that are left give the rest of the whole run
pub record Reached (whole left : Played) (old now : Option (List ℕ)) : Type 0 where
  pub pieces : List (List ℕ)
  pub is : whole ≡ behind_all pieces left
  pub written : now ≡ with_more old (concat pieces)

-- whatever lines follow a line, and whatever stands behind them: the run goes on behind it, or has ended there
abbrev pub LineGives : Setup → ℕ → Session → List ℕ → Session → LineOutcome → Option (List ℕ) → Option (List ℕ) → Type 0
LineGives r number session line after Next old new = (close : ℕ → Session → Played) (lines : List (List ℕ)) →
    Reached (run_lines r close number session (line ∷ lines)) (run_lines r close (number + 1) after lines) old new
LineGives r number session line after (Stop answer) old new = (close : ℕ → Session → Played) (lines : List (List ℕ)) →
    Ends (run_lines r close number session (line ∷ lines)) answer old new after.minds

-- a command's bytes were written, and what stands is what stands behind it, or the run has ended with a prefix of them
abbrev pub CommandGives : List ℕ → Session → Session → LineOutcome → Option (List ℕ) → Option (List ℕ) → Type 0
CommandGives bytes behind after Next old new = (after ≡ behind) × (new ≡ with_more old bytes)
CommandGives bytes behind after (Stop status.WriteFault) old new = (count : ℕ) × (new ≡ with_more old (take count bytes))
CommandGives bytes behind after (Stop status.NoMemory) old new = new ≡ old
CommandGives bytes behind after (Stop answer) old new = ⊥

-- a line that is read and not run holds so many commands, whatever lines follow it, or ends the reading, with nothing written
abbrev pub CheckGives : ℕ → List ℕ → Result ℕ Status → Type 0
CheckGives number line (Ok more) = (minds : List Mind) (close : ℕ → ℕ → Played) (count : ℕ) (lines : List (List ℕ)) →
    check_lines minds close number count (line ∷ lines) ≡ check_lines minds close (number + 1) (count + more) lines
CheckGives number line (Err answer) = (minds : List Mind) (close : ℕ → ℕ → Played) (count : ℕ) (lines : List (List ℕ)) (known : Option (List ℕ)) →
    Ends (check_lines minds close number count (line ∷ lines)) answer known known minds
