-- The code and the text of each status.
use Rattle.std.specs.Prelude.{ℕ, ◌++◌, List, [], codes, decimal}
use Rattle.trace_model.specs.declared.faults.SettingsFault.{SettingsFault}
use Rattle.trace_model.specs.declared.faults.SettingsFault.TheVariants as setting
use Rattle.trace_model.specs.declared.faults.TraceFault.{TraceFault}
use Rattle.trace_model.specs.declared.faults.TraceFault.TheVariants as fault
use Rattle.replay_cli.specs.declared.status.Status.{Status}
use Rattle.replay_cli.specs.declared.status.Status.TheVariants as status

abbrev pub code_of : Status → ℕ
code_of status.Done = 0
code_of status.Usage = 1
code_of (status.TraceFault line kind) = 2
code_of (status.SettingsFault kind) = 3
code_of status.ReadFault = 4
code_of status.WriteFault = 5
code_of status.NoMemory = 6
code_of status.TraceTooLong = 7

abbrev pub kind_text : TraceFault → List ℕ
kind_text fault.LineTooLong = codes "line-too-long"
kind_text fault.Json = codes "json"
kind_text fault.NotObject = codes "not-object"
kind_text fault.Op = codes "op"
kind_text fault.Field = codes "field"
kind_text fault.Missing = codes "missing"
kind_text fault.Number = codes "number"
kind_text fault.Text = codes "text"
kind_text fault.NoMemory = codes "memory"

abbrev pub setting_text : SettingsFault → List ℕ
setting_text setting.Toml = codes "toml"
setting_text setting.Key = codes "key"
setting_text setting.Value = codes "value"
setting_text setting.Limit = codes "limit"
setting_text setting.Face = codes "face"
setting_text setting.Watcher = codes "watcher"
setting_text setting.NoMemory = codes "memory"

abbrev pub status_text : Status → List ℕ
status_text status.Done = []
status_text status.Usage = codes "fault usage"
status_text (status.TraceFault line kind) = codes "fault line " ++ decimal line ++ codes " " ++ kind_text kind
status_text (status.SettingsFault kind) = codes "fault settings " ++ setting_text kind
status_text status.ReadFault = codes "fault read"
status_text status.WriteFault = codes "fault write"
status_text status.NoMemory = codes "fault memory"
status_text status.TraceTooLong = codes "fault trace-too-long"
