-- The seats of watchers, asked for once in a state.
use Rattle.std.specs.Prelude.{ℕ, ◌&&◌, ◌==◌, ◌++◌, not, List, length, filter, min, max}
use Rattle.std.specs.List.{flat_map}
use Rattle.edit_base.specs.declared.rows.Pick.TheVariants.{Watches}
use Rattle.edit_model.specs.declared.events.SpanChange.{SpanChange}
use Rattle.edit_model.specs.declared.events.SpanChange.TheVariants.{Added, Moved, Removed}
use Rattle.edit_model.specs.declared.events.SpanCallback.{SpanCallback}
use Rattle.edit_model.specs.State.{Span, State}
use Rattle.edit_model.specs.Over.{lies_over, over}
use Rattle.edit_model.specs.Changed.{Shift, Effect}
use Rattle.edit_model.specs.Events.{slots_of, span_event, callbacks}

-- all seats of a state, in a query's order
abbrev pub seats_in : State → List Span
seats_in state = over 0 (length state.units) Watches state.spans

-- the slots of those seats that lie over a range
abbrev pub slots_over : ℕ → ℕ → List Span → List ℕ
slots_over start end seats = slots_of (filter (lies_over start end) seats)

-- but for a seat that is the span itself
abbrev pub slots_beside : ℕ → ℕ → ℕ → List Span → List ℕ
slots_beside id start end seats = slots_of (filter (λ seat. not (seat.id == id) && lies_over start end seat) seats)

-- what those seats are told of a span that is where it was
abbrev pub told_there : ℕ → SpanChange → List Span → Span → List SpanCallback
told_there depth change seats span = callbacks (span_event depth change span span) (slots_beside span.id span.start span.end seats)

-- and of one that moved, in a text of this length
abbrev pub told_moved : ℕ → ℕ → List Span → Shift → List SpanCallback
told_moved depth last seats shift =
    callbacks (span_event depth Moved shift.from shift.to)
    (slots_beside shift.to.id (min shift.from.start shift.to.start) (min (max shift.from.end shift.to.end) last) seats)

-- what the seats before an edit and those after it are told of its spans
abbrev pub seats_told : ℕ → List Span → List Span → ℕ → Effect → List SpanCallback
seats_told depth before after last effect =
    flat_map (told_there depth Removed before) effect.removed
    ++ (flat_map (told_moved depth last after) effect.moved ++ flat_map (told_there depth Added after) effect.added)
