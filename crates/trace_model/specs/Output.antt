-- What a trace gives: the bytes of each command, the end block, how the run ends, and what the watchers keep then.
use Rattle.std.specs.Prelude.{ℕ, ◌+◌, ◌++◌, List, [], ◌∷◌, length, take, nat_lt, if◌then◌else◌, Result, Ok, Err}
use Rattle.std.specs.List.{concat, flat_map}
use Rattle.edit_base.specs.declared.bounds.TheConstants.Limits.{TRACE_BYTES, LINE_BYTES}
use Rattle.trace_model.specs.declared.faults.TraceFault.{TraceFault}
use Rattle.trace_model.specs.declared.faults.TraceFault.TheVariants as fault
use Rattle.trace_model.specs.declared.faults.SettingsFault.{SettingsFault}
use Rattle.trace_model.specs.declared.faults.SettingsFault.TheVariants as wrong
use Rattle.trace_model.specs.declared.commands.Command.{Command}
use Rattle.trace_model.specs.declared.commands.Command.TheVariants as commands
use Rattle.edit_model.specs.declared.items.Planned.{Planned}
use Rattle.edit_model.specs.declared.items.Planned.TheVariants.{Items}
use Rattle.edit_model.specs.declared.items.Planned.TheVariants as planned
use Rattle.trace_model.specs.declared.reports.Report.{Report}
use Rattle.trace_model.specs.declared.replies.Reply.TheVariants as reply
use Rattle.edit_base.specs.declared.rows.Pick.TheVariants.{All}
use Rattle.edit_base.specs.declared.verdicts.Verdict.{Verdict}
use Rattle.edit_base.specs.declared.verdicts.Verdict.TheVariants.{Absent, Ignored}
use Rattle.edit_model.specs.State.{State, empty_state, place}
use Rattle.edit_model.specs.Over.{over, next_edge}
use Rattle.edit_model.specs.Verdicts.{judged_range}
use Rattle.edit_model.specs.Changed.{on_done}
use Rattle.edit_model.specs.Log.{range_logged}
use Rattle.edit_model.specs.Minds.{Mind}
use Rattle.edit_model.specs.Machine.{Setup, Scene, scene_at}
use Rattle.edit_model.specs.Outcome.{outcomes}
use Rattle.edit_model.specs.Selection.{text_before, text_after, selected}
use Rattle.trace_model.specs.Items.{items_of, items_in}
use Rattle.trace_model.specs.Report.{judged_begin, judged_end, nesting_behind, report, last_report, no_report}
use Rattle.trace_model.specs.Printed.{header_line, entry_line, reply_text, reply_line, text_line, selected_line, report_line, found_lines, edge_line, end_block}
use Rattle.trace_model.specs.Operations.{operation, op_of}
use Rattle.trace_model.specs.Reading.{read_command}
use Rattle.trace_model.specs.Settings.{Settings}
use Rattle.trace_model.specs.Shelves.{Loaded, loaded_shelf}
use Rattle.trace_model.specs.TraceLines.{trace_lines, ended_lines, open_line, is_blank}

-- ---- before the first command

-- what a run is set to by its settings and its shelf, or their fault, and the minds of the shelf then
pub record Prepared : Type 0 where
  pub minds : List Mind
  pub found : Result Setup SettingsFault

-- the filters and the depth of the settings, and the slots of the watchers that were loaded
abbrev pub setup : Settings → List ℕ → Setup
setup settings slots = record { filters = settings.filters; slots = slots; depth = settings.depth }

-- the settings load their watchers on the shelf; what was loaded before a fault stays
abbrev pub prepared_by : Settings → Loaded → Prepared
prepared_by settings loaded =
    record { minds = loaded.minds; found = if loaded.fits then Ok (setup settings loaded.slots) else Err wrong.Watcher }

abbrev pub prepared : Result Settings SettingsFault → List Mind → Prepared
prepared (Ok settings) minds = prepared_by settings (loaded_shelf settings.watchers minds)
prepared (Err it) minds = record { minds = minds; found = Err it }

-- ---- one command

-- the operation's name
abbrev pub name_of : Command → List ℕ
name_of asked = (operation (op_of asked)).name

-- what stands between two commands: the text with its spans, the minds of the shelf, how many batches are open, and the last
-- report
pub record Session : Type 0 where
  pub state : State
  pub minds : List Mind
  pub nesting : ℕ
  pub last : Report

abbrev pub standing : State → List Mind → ℕ → Report → Session
standing state minds nesting last = record { state = state; minds = minds; nesting = nesting; last = last }

-- before the first command
abbrev pub first_session : List Mind → Session
first_session minds = standing empty_state minds 0 no_report

-- where a command starts that comes behind others
abbrev pub scene_of : Session → Scene
scene_of session = scene_at session.state session.minds

-- the scene behind the items of a command
unfoldable pub scene_behind : Setup → Session → Command → Scene
scene_behind r session asked = outcomes r (items_in (items_of session.state asked)) (scene_of session)

-- what stands behind a command that leaves a scene and so many batches open
abbrev pub session_of : Scene → ℕ → Report → Session
session_of scene nesting last = standing scene.state scene.minds nesting (last_report scene.state nesting last)

-- what stands behind a command
unfoldable pub session_behind : Setup → Session → Command → Session
session_behind r session asked = session_of (scene_behind r session asked) (nesting_behind session.nesting asked) session.last

-- a line for each entry of what the run of a command's items logs
abbrev pub log_lines : Scene → List ℕ
log_lines scene = flat_map entry_line scene.log

-- a query's answer, or the refusal of its range
abbrev pub answer_lines : State → Verdict → List ℕ → List ℕ
answer_lines state verdict answer = on_done verdict answer (reply_line (range_logged state verdict))

-- a verdict in reply, without a number behind it
abbrev pub verdict_line : Verdict → List ℕ
verdict_line verdict = reply_line (record { verdict = verdict; number = 0 })

-- the reply of a connection's command that has no items
abbrev pub planned_line : Planned → List ℕ
planned_line (Items items) = []
planned_line planned.Absent = verdict_line Absent
planned_line planned.Ignored = verdict_line Ignored

-- what a command is answered, as the text stands when it starts; an edit is answered by what is logged of it
unfoldable pub reply_lines : State → ℕ → Command → List ℕ
reply_lines state nesting (commands.SpansOver start end) =
    answer_lines state (judged_range state start end) (found_lines (over (place start) (place end) All state.spans))
reply_lines state nesting (commands.NextEdge start limit) =
    answer_lines state (judged_range state start limit) (edge_line (next_edge (place start) (place limit) state.spans))
reply_lines state nesting (commands.TextBefore count) = text_line (text_before state count)
reply_lines state nesting (commands.TextAfter count) = text_line (text_after state count)
reply_lines state nesting commands.Selected = selected_line (selected state)
reply_lines state nesting commands.Begin = verdict_line (judged_begin nesting)
reply_lines state nesting commands.End = verdict_line (judged_end nesting)
reply_lines state nesting asked = planned_line (items_of state asked)

-- the report behind a command that leaves a state and so many batches open
abbrev pub report_lines : State → ℕ → Report → List ℕ
report_lines state nesting last = report_line (report state nesting last)

-- what a command prints behind its header: what was logged, a reply, and a report
unfoldable pub lines_of : Setup → Session → Command → List ℕ
lines_of r session asked =
    log_lines (scene_behind r session asked)
    ++ reply_lines session.state session.nesting asked
    ++ report_lines (scene_behind r session asked).state (nesting_behind session.nesting asked) session.last

-- the bytes of a command: its header, and what it prints behind it
abbrev pub command_bytes : Setup → ℕ → Session → Command → List ℕ
command_bytes r number session asked = header_line number (name_of asked) ++ lines_of r session asked

-- ---- the lines

-- a line that is skipped, one that is a command, and one with a fault
pub data LineKind : Type 0 where
  blank : LineKind
  command : Command → LineKind
  faulty : TraceFault → LineKind

abbrev pub as_kind : Result Command TraceFault → LineKind
as_kind (Ok asked) = command asked
as_kind (Err it) = faulty it

unfoldable pub line_kind : List ℕ → LineKind
line_kind bytes = if is_blank bytes then blank else as_kind (read_command bytes)

-- the whole trace was run; a line has a fault; the trace is over its limit
pub data Ending : Type 0 where
  finished : Ending
  faulty_line : ℕ → TraceFault → Ending
  too_long : Ending

-- the bytes of each command that was run, those behind the last command, how the run ends, and the minds of the shelf then
pub record Played : Type 0 where
  pub commands : List (List ℕ)
  pub last : List ℕ
  pub ending : Ending
  pub minds : List Mind

-- no command, and nothing behind
abbrev pub stopped : Ending → List Mind → Played
stopped ending minds = record { commands = []; last = []; ending = ending; minds = minds }

-- a command's bytes in front
abbrev pub behind : List ℕ → Played → Played
behind bytes played = record { commands = bytes ∷ played.commands; last = played.last; ending = played.ending; minds = played.minds }

-- a line with this number, and then what the other lines give from what stands behind it
abbrev pub line_run : Setup → ℕ → Session → LineKind → (Session → Played) → Played
line_run r number session blank rest = rest session
line_run r number session (command asked) rest = behind (command_bytes r number session asked) (rest (session_behind r session asked))
line_run r number session (faulty it) rest = stopped (faulty_line number it) session.minds

-- the lines from this number on, and what stands behind them, by the number and what stands there
unfoldable pub run_lines : Setup → (ℕ → Session → Played) → ℕ → Session → List (List ℕ) → Played
run_lines r close number session [] = close number session
run_lines r close number session (line ∷ lines) = line_run r number session (line_kind line) (λ next. run_lines r close (number + 1) next lines)

-- behind the last line of a trace stands the end block
abbrev pub ended : ℕ → Session → Played
ended number session = record { commands = []; last = end_block session.state; ending = finished; minds = session.minds }

-- a trace over its limit stops behind its lines, at a line that is too long already or as too long itself
abbrev pub cut_off : List ℕ → Ending → ℕ → Ending
cut_off tail ending number = if nat_lt LINE_BYTES (length tail) then faulty_line number fault.LineTooLong else ending

abbrev pub overrun : List ℕ → ℕ → Session → Played
overrun tail number session = stopped (cut_off tail too_long number) session.minds

-- all bytes
abbrev pub bytes_of : Played → List ℕ
bytes_of played = concat played.commands ++ played.last

-- the bytes of a trace within its limit
abbrev pub within_limit : List ℕ → List ℕ
within_limit trace = take TRACE_BYTES trace

-- what a trace gives under a setup, from the minds of the shelf that was loaded
unfoldable pub play : Setup → List Mind → List ℕ → Played
play r minds trace =
    if nat_lt TRACE_BYTES (length trace)
    then run_lines r (overrun (open_line (within_limit trace))) 1 (first_session minds) (ended_lines (within_limit trace))
    else run_lines r ended 1 (first_session minds) (trace_lines trace)

-- ---- check

-- what the lines from this number on give that are read and not run, so many commands having been read before
abbrev pub line_check : List Mind → ℕ → ℕ → LineKind → (ℕ → Played) → Played
line_check minds number count blank rest = rest count
line_check minds number count (command asked) rest = rest (count + 1)
line_check minds number count (faulty it) rest = stopped (faulty_line number it) minds

unfoldable pub check_lines : List Mind → (ℕ → ℕ → Played) → ℕ → ℕ → List (List ℕ) → Played
check_lines minds close number count [] = close number count
check_lines minds close number count (line ∷ lines) =
    line_check minds number count (line_kind line) (λ next. check_lines minds close (number + 1) next lines)

-- how many commands there are
abbrev pub checked : List Mind → ℕ → ℕ → Played
checked minds number count = record { commands = []; last = reply_text (reply.Checked count); ending = finished; minds = minds }

abbrev pub overrun_check : List Mind → List ℕ → ℕ → ℕ → Played
overrun_check minds tail number count = stopped (cut_off tail too_long number) minds

-- no watcher is told of anything
unfoldable pub check : List Mind → List ℕ → Played
check minds trace =
    if nat_lt TRACE_BYTES (length trace)
    then check_lines minds (overrun_check minds (open_line (within_limit trace))) 1 0 (ended_lines (within_limit trace))
    else check_lines minds (checked minds) 1 0 (trace_lines trace)
