-- What a connection is told of selection and composing region, and how deep its batches are nested.
use Rattle.std.specs.Prelude.{ℕ, ℤ, pos, negsuc, ◌+◌, ◌-◌, ◌==◌, ◌&&◌, Bool, not, Option, Some, None, unwrap_or, if◌then◌else◌}
use Rattle.std.specs.Ordering.{int_eq}
use Rattle.edit_base.specs.declared.bounds.TheConstants.Limits.{NESTING}
use Rattle.edit_base.specs.declared.verdicts.Verdict.{Verdict}
use Rattle.edit_base.specs.declared.verdicts.Verdict.TheVariants.{Done, Refused}
use Rattle.edit_base.specs.declared.verdicts.Refusal.TheVariants.{NotInBatch, NestingFull}
use Rattle.trace_model.specs.declared.commands.Command.{Command}
use Rattle.trace_model.specs.declared.commands.Command.TheVariants as commands
use Rattle.trace_model.specs.declared.reports.Report.{Report}
use Rattle.edit_model.specs.State.{State}
use Rattle.edit_model.specs.Selection.{selection, region}
use Rattle.edit_model.specs.Changed.{on_done}

-- ---- nesting

-- one more batch is begun, unless as many are open as may be
abbrev pub judged_begin : ℕ → Verdict
judged_begin nesting = if nesting == NESTING then Refused NestingFull else Done

-- the last batch that was begun ends, where one is open
abbrev pub judged_end : ℕ → Verdict
judged_end nesting = if nesting == 0 then Refused NotInBatch else Done

-- how many batches are open behind each of the two
abbrev pub begun_nesting : ℕ → ℕ
begun_nesting nesting = on_done (judged_begin nesting) (nesting + 1) nesting

abbrev pub ended_nesting : ℕ → ℕ
ended_nesting nesting = on_done (judged_end nesting) (nesting - 1) nesting

-- and behind any command
unfoldable pub nesting_behind : ℕ → Command → ℕ
nesting_behind nesting commands.Begin = begun_nesting nesting
nesting_behind nesting commands.End = ended_nesting nesting
nesting_behind nesting asked = nesting

-- ---- reports

-- the first and the second place of a range, -1 where there is none
abbrev pub first_place : Option (ℕ × ℕ) → ℤ
first_place None = negsuc 0
first_place (Some range) = pos range.0

abbrev pub second_place : Option (ℕ × ℕ) → ℤ
second_place None = negsuc 0
second_place (Some range) = pos range.1

-- the four numbers of a text: where the selection and the composing region start and end
abbrev pub report_of : State → Report
report_of state = record {
  sel_start = first_place (selection state.spans);
  sel_end = second_place (selection state.spans);
  start = first_place (region state.spans);
  end = second_place (region state.spans);
}

-- with these the first report is compared
abbrev pub no_report : Report
no_report = record { sel_start = negsuc 0; sel_end = negsuc 0; start = negsuc 0; end = negsuc 0 }

abbrev pub is_same : Report → Report → Bool
is_same one other =
    int_eq one.sel_start other.sel_start && int_eq one.sel_end other.sel_end && int_eq one.start other.start && int_eq one.end other.end

-- the report that is made: outside all batches, where the numbers differ from those of the last one
unfoldable pub report : State → ℕ → Report → Option Report
report state nesting last = if nesting == 0 && not (is_same (report_of state) last) then Some (report_of state) else None

-- the last report then
abbrev pub last_report : State → ℕ → Report → Report
last_report state nesting last = unwrap_or (report state nesting last) last
