-- What a run asks for, writes and leaves, by its status.
use Rattle.std.specs.Prelude.{ℕ, ◌≡◌, ◌<◌, ◌≤◌, ◌++◌, List, [], ◌∷◌, length, map, take, Option, Some, None, if◌then◌else◌, Result, Ok, Err, codes}
use Rattle.std.specs.Option.{option_map}
use Rattle.std.specs.List.{concat}
use Rattle.std.specs.Str.{bytes_eq}
use Rattle.edit_base.specs.declared.bounds.TheConstants.Limits.{TRACE_BYTES}
use Rattle.trace_model.specs.declared.faults.SettingsFault.{SettingsFault}
use Rattle.trace_model.specs.Settings.{Settings, built_in, read_settings, watcher_kinds}
use Rattle.edit_model.specs.Machine.{Setup}
use Rattle.edit_model.specs.Minds.{Mind, blank_mind}
use Rattle.trace_model.specs.Output.{Played, Ending, finished, faulty_line, too_long, bytes_of, play, check, Prepared, prepared}
use Rattle.replay_io.specs.Outside.{Asked, begun_name, with_more, TookMore}
use Rattle.replay_cli.specs.declared.status.Status.{Status}
use Rattle.replay_cli.specs.declared.status.Status.TheVariants as status
use Rattle.replay_cli.specs.declared.requests.Task.{Task}
use Rattle.replay_cli.specs.declared.requests.Task.TheVariants.{Play, Check}

-- what the words ask for: to run a trace or to read it alone, the settings' file if there is one, and the trace's file
pub record Requested : Type 0 where
  pub task : Task
  pub settings : Option (List ℕ)
  pub trace : List ℕ

-- `-` stands for the built-in settings
abbrev pub settings_name : List ℕ → Option (List ℕ)
settings_name word = if bytes_eq word (codes "-") then None else Some word

abbrev pub requested : Task → List ℕ → List ℕ → Requested
requested task settings trace = record { task = task; settings = settings_name settings; trace = trace }

abbrev pub named_task : List ℕ → Option Task
named_task word = if bytes_eq word (codes "play") then Some Play else (if bytes_eq word (codes "check") then Some Check else None)

-- the words are `play SETTINGS TRACE` or `check SETTINGS TRACE`
abbrev pub requested_by : List (List ℕ) → Option Requested
requested_by (word ∷ settings ∷ trace ∷ []) = option_map (λ task. requested task settings trace) (named_task word)
requested_by words = None

-- ---- names

-- the names that a run asks for, one after the other
abbrev pub name_list : Option (List ℕ) → List ℕ → List (List ℕ)
name_list None trace = trace ∷ []
name_list (Some settings) trace = settings ∷ trace ∷ []

abbrev pub names_of : Requested → List (List ℕ)
names_of it = name_list it.settings it.trace

-- the first of the names were begun
pub record BeganSome (names : List (List ℕ)) (old new : List Asked) : Type 0 where
  pub begun : List (List ℕ)
  pub others : List (List ℕ)
  pub are : names ≡ begun ++ others
  pub is : new ≡ old ++ map begun_name begun

-- the first of the names were begun, and the next one was asked for
pub record AskedNext (names : List (List ℕ)) (old new : List Asked) : Type 0 where
  pub begun : List (List ℕ)
  pub next : Asked
  pub others : List (List ℕ)
  pub are : names ≡ begun ++ next.name ∷ others
  pub is : new ≡ old ++ map begun_name begun ++ next ∷ []

-- the settings alone were begun
abbrev pub BeganSettings : Option (List ℕ) → List Asked → List Asked → Type 0
BeganSettings None old new = ⊥
BeganSettings (Some settings) old new = new ≡ old ++ begun_name settings ∷ []

-- the names that a run has asked for, by its status
abbrev pub AsksFor : Option Requested → Status → List Asked → List Asked → Type 0
AsksFor None answer old new = new ≡ old
AsksFor (Some it) status.Usage old new = ⊥
AsksFor (Some it) (status.SettingsFault kind) old new = BeganSettings it.settings old new
AsksFor (Some it) status.ReadFault old new = AskedNext (names_of it) old new
AsksFor (Some it) status.NoMemory old new = BeganSome (names_of it) old new
AsksFor (Some it) answer old new = new ≡ old ++ map begun_name (names_of it)

-- ---- what the store tells

-- what the store tells of a run: nothing of its settings; that they, or the shelf, have this fault, behind loads that left these minds; that they have
-- none, but nothing of the trace; or the trace, and what it gives
pub data Told : Type 0 where
  untold : Told
  unset : SettingsFault → List Mind → Told
  set_up : Told
  gives : List ℕ → Played → Told

-- what a trace gives under a setup and a task, from the minds of the loaded shelf
abbrev pub given : Setup → List Mind → Task → List ℕ → Played
given r minds Play trace = play r minds trace
given r minds Check trace = check minds trace

-- what is told of a run by the minds of the shelf, what it is set to, and its trace
abbrev pub told_by : Task → List Mind → Result Setup SettingsFault → Option (List ℕ) → Told
told_by task minds (Err found) trace = unset found minds
told_by task minds (Ok r) None = set_up
told_by task minds (Ok r) (Some trace) = gives trace (given r minds task trace)

abbrev pub told_of : Task → Option Prepared → Option (List ℕ) → Told
told_of task None trace = untold
told_of task (Some it) trace = told_by task it.minds it.found trace

-- the settings that were asked for, where the store tells them
abbrev pub told_settings : Option (List ℕ) → (List ℕ → Option (List ℕ)) → Option (Result Settings SettingsFault)
told_settings None stands = Some (Ok built_in)
told_settings (Some name) stands = option_map read_settings (stands name)

-- what is told of a run with a shelf of these minds, by what stands under each name; of words that ask for nothing, nothing
abbrev pub told : Option Requested → (List ℕ → Option (List ℕ)) → List Mind → Told
told None stands minds = untold
told (Some it) stands minds = told_of it.task (option_map (λ found. prepared found minds) (told_settings it.settings stands)) (stands it.trace)

-- the minds of the shelf that the program starts with: a blank watcher of each kind that there is, in the order of the kinds
abbrev pub blank_shelf : List Mind
blank_shelf = map (λ kind. blank_mind kind.1) watcher_kinds

-- ---- what a run leaves

-- the run came to this end, with all of its bytes written, and these minds kept
abbrev pub EndsAt : Ending → Played → Option (List ℕ) → Option (List ℕ) → List Mind → Type 0
EndsAt ending played old new minds = (played.ending ≡ ending) × (new ≡ with_more old (bytes_of played)) × (minds ≡ played.minds)

-- how a run over what a trace gives ends, by its status: what was written, and what the watchers keep; a status that can't come has no case
abbrev pub Ends : Played → Status → Option (List ℕ) → Option (List ℕ) → List Mind → Type 0
Ends played status.Done old new minds = EndsAt finished played old new minds
Ends played (status.TraceFault line kind) old new minds = EndsAt (faulty_line line kind) played old new minds
Ends played status.TraceTooLong old new minds = EndsAt too_long played old new minds
Ends played status.WriteFault old new minds = (count : ℕ) × (new ≡ with_more old (take count (bytes_of played)))
Ends played status.NoMemory old new minds = (count : ℕ) × (new ≡ with_more old (concat (take count played.commands)))
Ends played answer old new minds = ⊥

-- what is left of the trace then: it was taken whole, or more of it than its limit
abbrev pub Takes : List ℕ → Status → Option (List ℕ) → Type 0
Takes trace status.Done left = left ≡ Some []
Takes trace status.TraceTooLong left = TookMore TRACE_BYTES trace left
Takes trace status.NoMemory left = Unit {0}
Takes trace answer left = (length trace ≤ TRACE_BYTES → left ≡ Some []) × (TRACE_BYTES < length trace → TookMore TRACE_BYTES trace left)

-- a run over this trace, which gives this; where it can't be read, nothing is written
abbrev pub LeavesTrace : List ℕ → Played → Status → Option (List ℕ) → Option (List ℕ) → Option (List ℕ) → List Mind → Type 0
LeavesTrace trace played status.ReadFault left old new minds = new ≡ old
LeavesTrace trace played answer left old new minds = Takes trace answer left × Ends played answer old new minds

-- where the settings or the shelf have a fault, nothing is written, and the minds are those behind the loads before it
abbrev pub LeavesUnset : SettingsFault → List Mind → Status → Option (List ℕ) → Option (List ℕ) → List Mind → Type 0
LeavesUnset found kept (status.SettingsFault kind) old new minds = (kind ≡ found) × (new ≡ old) × (minds ≡ kept)
LeavesUnset found kept status.ReadFault old new minds = new ≡ old
LeavesUnset found kept status.NoMemory old new minds = new ≡ old
LeavesUnset found kept answer old new minds = ⊥

-- the words have a form, and the settings no fault
abbrev pub IsSet : Status → Type 0
IsSet status.Usage = ⊥
IsSet (status.SettingsFault kind) = ⊥
IsSet answer = Unit {0}

-- what a run leaves of its trace, has written, and leaves in the minds of the shelf
abbrev pub Leaves : Told → Status → Option (List ℕ) → Option (List ℕ) → Option (List ℕ) → List Mind → Type 0
Leaves untold answer left old new minds = Unit {0}
Leaves (unset found kept) answer left old new minds = LeavesUnset found kept answer old new minds
Leaves set_up answer left old new minds = IsSet answer
Leaves (gives trace played) answer left old new minds = LeavesTrace trace played answer left old new minds

-- the settings have a reading, their watchers stand on the shelf, and every line that isn't blank is a command, the trace being within its limit
abbrev pub IsComplete : Told → Type 0
IsComplete (gives trace played) = played.ending ≡ finished
IsComplete it = ⊥
