-- The agenda machine: it takes one task after another from an agenda. One step is one edit's verdict, one edit's change, or
-- one callback.
use Rattle.std.specs.Prelude.{ℕ, ℤ, pos, zero, suc, min, max, ◌≡◌, ◌+◌, ◌++◌, ◌&&◌, ◌||◌, Bool, false, List, [], ◌∷◌, length, map, nat_lt, nat_le, slice_index, slice_index_or, slice_set, if◌then◌else◌}
use Rattle.edit_base.specs.declared.bounds.TheConstants.Limits.{NESTED_EDITS}
use Rattle.edit_base.specs.declared.edits.Edit.{Edit}
use Rattle.edit_base.specs.declared.edits.Edit.TheVariants as edit
use Rattle.edit_base.specs.declared.rows.Incoming.{Incoming}
use Rattle.edit_base.specs.declared.verdicts.Verdict.{Verdict}
use Rattle.edit_base.specs.declared.verdicts.Verdict.TheVariants.{Refused}
use Rattle.edit_base.specs.declared.verdicts.Refusal.TheVariants.{Depth, Budget}
use Rattle.edit_model.specs.declared.entries.LogEntry.{LogEntry}
use Rattle.edit_model.specs.declared.entries.LogEntry.TheVariants as entry
use Rattle.edit_model.specs.declared.events.TextEvent.{TextEvent}
use Rattle.edit_model.specs.declared.events.SpanEvent.{SpanEvent}
use Rattle.edit_model.specs.declared.filters.Filter.{Filter}
use Rattle.edit_model.specs.declared.items.Item.{Item}
use Rattle.edit_model.specs.declared.items.Item.TheVariants as item
use Rattle.edit_model.specs.declared.steps.Step.{Step}
use Rattle.edit_model.specs.declared.steps.Step.TheVariants as edit_step
use Rattle.edit_model.specs.State.{State, place}
use Rattle.edit_model.specs.Verdicts.{judged}
use Rattle.edit_model.specs.Filtered.{filtered_step}
use Rattle.edit_model.specs.Changed.{Effect, change_of, stepped, on_done}
use Rattle.edit_model.specs.Log.{logged, entry_of}
use Rattle.edit_model.specs.Minds.{Mind, blank_mind, answer_after, answer_span, mind_before, mind_changed, mind_after, mind_span}
use Rattle.edit_model.specs.Events.{listeners, text_event, span_callbacks}

-- ---- what the machine works on

-- what no step changes: the filters, the shelf places of the watchers in the slots, and how deep edits may be nested
pub record Setup : Type 0 where
  pub filters : List Filter
  pub slots : List ℕ
  pub depth : ℕ

-- what stands between two steps: the text with its spans, the minds of the shelf, what was logged, how many nested edits have
-- begun, and what the edits changed that were done, in their order
pub record Scene : Type 0 where
  pub state : State
  pub minds : List Mind
  pub log : List LogEntry
  pub begun : ℕ
  pub effects : List Effect

-- where a command starts: nothing is logged, and no nested edit has begun
abbrev pub scene_at : State → List Mind → Scene
scene_at state minds = record { state = state; minds = minds; log = []; begun = 0; effects = [] }

-- what is left to do: an item of a command; the edits of an answer that are left, with their depth; the change of an edit
-- whose verdict was done; a callback to the watcher in a slot
pub data Task : Type 0 where
  run_item : Item → Task
  do_rest : Edit → List Edit → ℕ → Task
  make_change : Step → Task
  tell_before : ℕ → TextEvent → Task
  tell_changed : ℕ → TextEvent → Task
  tell_after : ℕ → TextEvent → Task
  tell_span : ℕ → SpanEvent → Task

pub record Config : Type 0 where
  pub scene : Scene
  pub agenda : List Task

abbrev pub at : Scene → List Task → Config
at scene agenda = record { scene = scene; agenda = agenda }

-- the edits of an answer that are left: no task where none is
abbrev pub rest_of : List Edit → ℕ → List Task
rest_of [] depth = []
rest_of (first ∷ others) depth = do_rest first others depth ∷ []

-- ---- edits

-- a text that comes alone
abbrev pub alone : List ℕ → Incoming
alone units = record { units = units; spans = []; composing = false }

-- the step that an edit is resolved to
unfoldable pub resolved_edit : Edit → Step
resolved_edit (edit.Replace start end text) = edit_step.Replace start end (alone text.items)
resolved_edit (edit.SetSpan id start end flags what) = edit_step.Set id start end flags what
resolved_edit (edit.RemoveSpan id) = edit_step.Remove id
resolved_edit (edit.Select start end) = edit_step.Select start end

-- a place of a connection's item at its turn: in the text
abbrev pub clamped : State → ℤ → ℕ
clamped state at = min (place at) (length state.units)

-- the step that an item is resolved to at its turn, in the text that stands then
unfoldable pub resolved : State → Item → Step
resolved state (item.Edit it) = resolved_edit it
resolved state (item.Replace start end incoming) = edit_step.Replace start end incoming
resolved state (item.Write start end incoming) = edit_step.Replace (pos (clamped state start)) (pos (clamped state end)) incoming
resolved state (item.Cursor at) = edit_step.Select (pos (clamped state at)) (pos (clamped state at))
resolved state (item.Mark start end) = edit_step.Mark (min (clamped state start) (clamped state end)) (max (clamped state start) (clamped state end))
resolved state item.Drop = edit_step.Drop
resolved state item.Deselect = edit_step.Deselect

-- it is nested, and too deep
abbrev pub is_too_deep : ℕ → ℕ → Bool
is_too_deep limit depth = nat_lt 0 depth && nat_lt limit depth

-- it is nested, and as many nested edits have begun as may begin in one command
abbrev pub is_too_many : ℕ → ℕ → Bool
is_too_many depth begun = nat_lt 0 depth && nat_le NESTED_EDITS begun

-- the verdict of an edit at a depth, with so many slots, a greatest depth, and so many nested edits begun before it
unfoldable pub judged_at : State → ℕ → ℕ → ℕ → ℕ → Step → Verdict
judged_at state slots limit depth begun asked =
    if is_too_deep limit depth then Refused Depth
    else (if is_too_many depth begun then Refused Budget else judged state slots asked)

-- an edit is refused for its depth, or for the number begun
unfoldable pub is_barred : ℕ → ℕ → ℕ → Bool
is_barred limit depth begun = is_too_deep limit depth || is_too_many depth begun

-- the edit with its text filtered, as the text stands
abbrev pub as_brought : Setup → Step → State → Step
as_brought r asked state = filtered_step r.filters state asked

-- the verdict of an edit at a depth, so many nested edits having begun before it
abbrev pub verdict_at : Setup → ℕ → Step → State → ℕ → Verdict
verdict_at r depth asked state begun = judged_at state (length r.slots) r.depth depth begun (as_brought r asked state)

-- what is logged of an edit: as it was asked for, with its verdict when its text was filtered
unfoldable pub edit_entry : Setup → ℕ → Step → State → ℕ → LogEntry
edit_entry r depth asked state begun = entry_of depth asked (logged state (as_brought r asked state) (verdict_at r depth asked state begun))

-- what an edit that is done sets off: its watchers are told before the change, right after it, and when all were told; then
-- those are told who sit over spans that were removed, moved or added
abbrev pub events : State → ℕ → Step → List Task
events state depth asked =
    map (λ slot. tell_before slot (text_event depth asked)) (listeners state asked)
    ++ make_change asked
    ∷ (map (λ slot. tell_changed slot (text_event depth asked)) (listeners state asked)
    ++ (map (λ slot. tell_after slot (text_event depth asked)) (listeners state asked)
    ++ map (λ told. tell_span told.slot told.event) (span_callbacks state depth asked)))

-- nothing, where it isn't done
abbrev pub sets_off : Setup → ℕ → Step → State → ℕ → List Task
sets_off r depth asked state begun = on_done (verdict_at r depth asked state begun) (events state depth (as_brought r asked state)) []

-- ---- steps

abbrev pub with_entry : LogEntry → Scene → Scene
with_entry it s = record s { log = s.log ++ it ∷ [] }

abbrev pub with_one_begun : Scene → Scene
with_one_begun s = record s { begun = s.begun + 1 }

abbrev pub edit_logged : Setup → ℕ → Step → Scene → Scene
edit_logged r depth asked s = with_entry (edit_entry r depth asked s.state s.begun) s

-- a command's own edit: it is judged and logged, and what it sets off comes next
abbrev pub command_done : Setup → Step → Scene → List Task → Config
command_done r asked s rest = at (edit_logged r 0 asked s) (sets_off r 0 asked s.state s.begun ++ rest)

-- the first edit of an answer that is barred: it is logged, and the rest of the answer is dropped
abbrev pub answer_dropped : Setup → Step → ℕ → Scene → List Task → Config
answer_dropped r asked depth s rest = at (edit_logged r depth asked s) rest

-- the first edit of an answer that is not: it has begun, and is judged and logged as a command's own; the rest of the answer
-- stands behind what it sets off
abbrev pub answer_begun : Setup → Step → List Edit → ℕ → Scene → List Task → Config
answer_begun r asked others depth s rest =
    at (with_one_begun (edit_logged r depth asked s)) (sets_off r depth asked s.state s.begun ++ (rest_of others depth ++ rest))

-- an edit's change
abbrev pub changed_by : Step → Scene → Scene
changed_by asked s = record s { state = stepped s.state asked; effects = s.effects ++ change_of s.state asked ∷ [] }

-- the shelf place of the watcher in a slot, and its mind
abbrev pub shelf_place : Setup → ℕ → ℕ
shelf_place r slot = slice_index r.slots slot

abbrev pub mind_in : Setup → ℕ → Scene → Mind
mind_in r slot s = slice_index_or s.minds (shelf_place r slot) (blank_mind 0)

-- a callback to the watcher in a slot: it is logged, and the watcher's mind is another
abbrev pub with_callback : Setup → ℕ → LogEntry → Mind → Scene → Scene
with_callback r slot it mind s = record s { minds = slice_set s.minds (shelf_place r slot) mind; log = s.log ++ it ∷ [] }

-- one task, with what stands behind it
abbrev pub task_done : Setup → Task → Scene → List Task → Config
task_done r (run_item it) s rest = command_done r (resolved s.state it) s rest
task_done r (do_rest first others depth) s rest =
    if is_barred r.depth depth s.begun
    then answer_dropped r (resolved_edit first) depth s rest
    else answer_begun r (resolved_edit first) others depth s rest
task_done r (make_change asked) s rest = at (changed_by asked s) rest
task_done r (tell_before slot event) s rest =
    at (with_callback r slot (entry.Before slot event) (mind_before (mind_in r slot s) event s.state.units) s) rest
task_done r (tell_changed slot event) s rest =
    at (with_callback r slot (entry.Changed slot event) (mind_changed (mind_in r slot s) event s.state.units) s) rest
task_done r (tell_after slot event) s rest =
    at (with_callback r slot (entry.After slot event) (mind_after (mind_in r slot s) event s.state.units) s)
    (rest_of (answer_after (mind_in r slot s) event s.state.units) (event.depth + 1) ++ rest)
task_done r (tell_span slot event) s rest =
    at (with_callback r slot (entry.Span slot event) (mind_span (mind_in r slot s) event s.state.units) s)
    (rest_of (answer_span (mind_in r slot s) event s.state.units) (event.depth + 1) ++ rest)

-- one step: the first task, where there is one
abbrev pub first_done : Setup → Scene → List Task → Config
first_done r s [] = at s []
first_done r s (task ∷ rest) = task_done r task s rest

abbrev pub step : Setup → Config → Config
step r c = first_done r c.scene c.agenda

abbrev pub steps : Setup → ℕ → Config → Config
steps r zero c = c
steps r (suc n) c = steps r n (step r c)

-- ---- runs

-- some number of steps leads from one configuration to another
pub record Reaches (r : Setup) (old new : Config) : Type 0 where
  pub count : ℕ
  pub is : steps r count old ≡ new

-- whatever stands behind some tasks, the run comes to where others stand in their place
pub record Leads (r : Setup) (tasks left : List Task) (old new : Scene) : Type 0 where
  pub run : (rest : List Task) → Reaches r (at old (tasks ++ rest)) (at new (left ++ rest))

-- whatever stands behind some tasks, the run comes through this scene
pub record Passes (r : Setup) (tasks : List Task) (old new : Scene) : Type 0 where
  pub run : (rest : List Task) → (agenda : List Task) × Reaches r (at old (tasks ++ rest)) (at new agenda)

-- the run of an item ends: nothing is left to do
abbrev pub Ends : Setup → Item → Scene → Scene → Type 0
Ends r it old new = Reaches r (at old (run_item it ∷ [])) (at new [])
