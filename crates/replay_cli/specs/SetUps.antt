-- What reading the settings gives, and what running a trace asks for.
use Rattle.std.specs.Prelude.{ℕ, ◌≡◌, ◌⊎◌, ◌++◌, Bool, List, [], ◌∷◌, map, Option, Some, None, IfSome, Result, Ok, Err}
use Rattle.trace_model.specs.declared.faults.SettingsFault.{SettingsFault}
use Rattle.trace_model.specs.Settings as plain
use Rattle.settings_reader.specs.declared.settings.Settings.{Settings}
use Rattle.settings_reader.specs.Seen.{as_settings}
use Rattle.replay_io.specs.Outside.{Asked, begun_name}
use Rattle.replay_cli.specs.declared.status.Status.{Status}
use Rattle.replay_cli.specs.declared.status.Status.TheVariants as status
use Rattle.edit_model.specs.Machine.{Setup}
use Rattle.edit_model.specs.Minds.{Mind}
use Rattle.trace_model.specs.Output.{Played, first_session, run_lines, check_lines}
use Rattle.replay_cli.specs.declared.requests.Task.{Task}
use Rattle.replay_cli.specs.declared.requests.Task.TheVariants.{Play, Check}
use Rattle.replay_cli.specs.Steps.{lines_in, close_of, close_check}
use Rattle.replay_cli.specs.Runs.{BeganSome, AskedNext, BeganSettings}

-- the settings that were read, or why a run stops before its trace
abbrev pub SetsUp : Result Settings Status → Option (Result plain.Settings SettingsFault) → Type 0
SetsUp (Ok settings) told = IfSome told (λ found. found ≡ Ok (as_settings settings))
SetsUp (Err (status.SettingsFault kind)) told = IfSome told (λ found. found ≡ Err kind)
SetsUp (Err status.ReadFault) told = Unit {0}
SetsUp (Err status.NoMemory) told = Unit {0}
SetsUp (Err answer) told = ⊥

abbrev pub settings_list : Option (List ℕ) → List (List ℕ)
settings_list None = []
settings_list (Some name) = name ∷ []

abbrev pub SetUpAsks : Option (List ℕ) → Result Settings Status → List Asked → List Asked → Type 0
SetUpAsks settings (Ok it) old new = new ≡ old ++ map begun_name (settings_list settings)
SetUpAsks settings (Err (status.SettingsFault kind)) old new = BeganSettings settings old new
SetUpAsks settings (Err status.ReadFault) old new = AskedNext (settings_list settings) old new
SetUpAsks settings (Err status.NoMemory) old new = BeganSome (settings_list settings) old new
SetUpAsks settings (Err answer) old new = ⊥

-- running a trace asks for its name once
abbrev pub TraceAsks : List ℕ → Status → List Asked → List Asked → Type 0
TraceAsks trace status.Usage old new = ⊥
TraceAsks trace (status.SettingsFault kind) old new = ⊥
TraceAsks trace status.ReadFault old new = (begun : Bool) × (new ≡ old ++ record { name = trace; begun = begun } ∷ [])
TraceAsks trace status.NoMemory old new = (new ≡ old) ⊎ (new ≡ old ++ begun_name trace ∷ [])
TraceAsks trace answer old new = new ≡ old ++ begun_name trace ∷ []

-- the settings of some bytes, or their fault; want of memory is free
abbrev pub Settles : Result Settings Status → Result plain.Settings SettingsFault → Type 0
Settles (Ok settings) found = found ≡ Ok (as_settings settings)
Settles (Err (status.SettingsFault kind)) found = found ≡ Err kind
Settles (Err status.NoMemory) found = Unit {0}
Settles (Err answer) found = ⊥

-- what the lines of a trace give under a task, or those of its front where more was cut off
abbrev pub given_lines : Setup → List Mind → Task → Bool → List ℕ → Played
given_lines r minds Play is_cut bytes = run_lines r (close_of is_cut bytes) 1 (first_session minds) (lines_in is_cut bytes)
given_lines r minds Check is_cut bytes = check_lines minds (close_check minds is_cut bytes) 1 0 (lines_in is_cut bytes)
