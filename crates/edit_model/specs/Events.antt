-- What an edit tells watchers, and which of them.
use Rattle.std.specs.Prelude.{ℕ, ◌≡◌, ◌<◌, ◌-◌, ◌++◌, ◌==◌, not, List, [], length, map, filter, min, max}
use Rattle.std.specs.List.{flat_map}
use Rattle.edit_base.specs.declared.kinds.What.{What}
use Rattle.edit_base.specs.declared.kinds.What.TheVariants.{Tag, Face, Margin, Float, Watch, SelStart, SelEnd, Composing}
use Rattle.edit_base.specs.declared.rows.Pick.TheVariants.{Watches}
use Rattle.edit_model.specs.declared.events.TextEvent.{TextEvent}
use Rattle.edit_model.specs.declared.events.SpanEvent.{SpanEvent}
use Rattle.edit_model.specs.declared.events.SpanChange.{SpanChange}
use Rattle.edit_model.specs.declared.events.SpanChange.TheVariants.{Added, Moved, Removed}
use Rattle.edit_model.specs.declared.events.SpanCallback.{SpanCallback}
use Rattle.edit_model.specs.declared.steps.Step.{Step}
use Rattle.edit_model.specs.declared.steps.Step.TheVariants as step
use Rattle.edit_model.specs.State.{State, Span, place}
use Rattle.edit_model.specs.Over.{over}
use Rattle.edit_model.specs.Changed.{Shift, Effect, change_of, stepped}
use Rattle.edit_model.specs.Minds.{IsToldSpan}

-- the slot of the watcher whose seat this is, and 0 of any other what
abbrev pub slot_of : What → ℕ
slot_of (Tag number) = 0
slot_of (Face number) = 0
slot_of (Margin first rest) = 0
slot_of (Float margin lines) = 0
slot_of (Watch slot) = slot
slot_of SelStart = 0
slot_of SelEnd = 0
slot_of Composing = 0

-- the slots of the seats among some spans
abbrev pub slots_of : List Span → List ℕ
slots_of spans = map (λ span. slot_of span.what) spans

-- who is told of an edit's text: the watchers whose seats lie over the replaced range before the change, in a query's order
unfoldable pub listeners : State → Step → List ℕ
listeners state (step.Replace start end incoming) = slots_of (over (place start) (place end) Watches state.spans)
listeners state (step.Set id start end flags what) = []
listeners state (step.Remove id) = []
listeners state (step.Select start end) = []
listeners state step.Deselect = []
listeners state step.Drop = []
listeners state (step.Mark start end) = []

-- an edit of spans alone tells nobody of its text
abbrev pub no_text_event : ℕ → TextEvent
no_text_event depth = record { depth = depth; start = 0; before = 0; after = 0 }

-- what they are told of it, its text being filtered already
unfoldable pub text_event : ℕ → Step → TextEvent
text_event depth (step.Replace start end incoming) =
    record { depth = depth; start = place start; before = place end - place start; after = length incoming.units }
text_event depth (step.Set id start end flags what) = no_text_event depth
text_event depth (step.Remove id) = no_text_event depth
text_event depth (step.Select start end) = no_text_event depth
text_event depth step.Deselect = no_text_event depth
text_event depth step.Drop = no_text_event depth
text_event depth (step.Mark start end) = no_text_event depth

-- ---- spans

-- a span that an edit added, moved or removed, before the edit and after it
abbrev pub span_event : ℕ → SpanChange → Span → Span → SpanEvent
span_event depth change from to = record {
  depth = depth;
  id = to.id;
  change = change;
  old_start = from.start;
  old_end = from.end;
  start = to.start;
  end = to.end;
}

-- those who are told of a span: the watchers whose seats lie over a range, but for a seat that is the span itself, in a
-- query's order
abbrev pub beside : ℕ → ℕ → ℕ → List Span → List ℕ
beside id start end spans = slots_of (filter (λ seat. not (seat.id == id)) (over start end Watches spans))

-- each of these slots is told of an event
abbrev pub callbacks : SpanEvent → List ℕ → List SpanCallback
callbacks event slots = map (λ slot. record { slot = slot; event = event }) slots

-- of a removed span those are told that lay over its place
abbrev pub removed_told : ℕ → State → Span → List SpanCallback
removed_told depth old span = callbacks (span_event depth Removed span span) (beside span.id span.start span.end old.spans)

-- of a moved span those that lie over all from its old place to its new one, as far as the new text reaches
abbrev pub moved_told : ℕ → State → Shift → List SpanCallback
moved_told depth new shift =
    callbacks (span_event depth Moved shift.from shift.to)
    (beside shift.to.id (min shift.from.start shift.to.start) (min (max shift.from.end shift.to.end) (length new.units)) new.spans)

-- and of an added span those that lie over its place
abbrev pub added_told : ℕ → State → Span → List SpanCallback
added_told depth new span = callbacks (span_event depth Added span span) (beside span.id span.start span.end new.spans)

-- of an edit's spans, between two states: first those that it removed, then those that it moved, then those that it added,
-- each group in order of attachment
abbrev pub spans_told : ℕ → State → State → Effect → List SpanCallback
spans_told depth old new effect =
    flat_map (removed_told depth old) effect.removed
    ++ (flat_map (moved_told depth new) effect.moved ++ flat_map (added_told depth new) effect.added)

-- what an edit that is done tells of spans, all of it known when the change is made
unfoldable pub span_callbacks : State → ℕ → Step → List SpanCallback
span_callbacks state depth asked = spans_told depth state (stepped state asked) (change_of state asked)

-- a callback of this depth, to one of so many slots, that a watcher may be told
pub record IsCallback (count deep : ℕ) (told : SpanCallback) : Type 0 where
  pub slot : told.slot < count
  pub depth : told.event.depth ≡ deep
  pub places : IsToldSpan told.event
