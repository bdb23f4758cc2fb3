-- Worked examples of what edits tell of spans.
use Rattle.std.specs.Prelude.{ℕ, ◌≡◌, ◌∷◌, [], pos, codes}
use Rattle.edit_base.specs.declared.kinds.What.TheVariants.{Tag, Watch}
use Rattle.edit_model.specs.declared.events.SpanCallback.{SpanCallback}
use Rattle.edit_model.specs.declared.events.SpanChange.TheVariants.{Added, Moved, Removed}
use Rattle.edit_model.specs.declared.steps.Step.TheVariants as step
use Rattle.edit_model.specs.State.{Span}
use Rattle.edit_model.specs.Events.{span_callbacks}
use Rattle.edit_model.specs.Brought.{incoming_of}
use Rattle.edit_model.specs.Examples.{tagged, attached}

-- the seat of a watcher in a slot
abbrev pub seat : ℕ → ℕ → ℕ → ℕ → ℕ → Span
seat id slot start end flags = record { id = id; start = start; end = end; flags = flags; what = Watch slot }

-- callbacks, their numbers in the order of the printed lines: depth, slot, id and places
abbrev pub added : ℕ → ℕ → ℕ → ℕ → ℕ → SpanCallback
added depth slot id start end = record {
  slot = slot;
  event = record { depth = depth; id = id; change = Added; old_start = start; old_end = end; start = start; end = end };
}

abbrev pub removed : ℕ → ℕ → ℕ → ℕ → ℕ → SpanCallback
removed depth slot id start end = record {
  slot = slot;
  event = record { depth = depth; id = id; change = Removed; old_start = start; old_end = end; start = start; end = end };
}

abbrev pub moved : ℕ → ℕ → ℕ → ℕ → ℕ → ℕ → ℕ → SpanCallback
moved depth slot id old_start old_end start end = record {
  slot = slot;
  event = record { depth = depth; id = id; change = Moved; old_start = old_start; old_end = old_end; start = start; end = end };
}

-- a span that was only shifted has moved: the first watcher lies between its old place and its new one, over neither of
-- them, and is told; the second touches the end of the new place, and isn't
abbrev pub TellsShifts : Type 0
TellsShifts =
    span_callbacks (record { units = codes "abcdef"; spans = seat 10 0 0 1 34 ∷ seat 11 1 2 4 17 ∷ attached 5 1 2 33 ∷ [] }) 0
    (step.Replace (pos 0) (pos 0) (incoming_of (codes "xy") []))
    ≡ moved 0 0 11 2 4 4 6 ∷ moved 0 0 5 1 2 3 4 ∷ []

-- the old end lies behind the text that is left: watchers are sought no further than its end, and the first one touches that
abbrev pub TellsToTheEnd : Type 0
TellsToTheEnd =
    span_callbacks (record { units = codes "abcdef"; spans = seat 10 0 1 3 33 ∷ seat 11 1 0 2 17 ∷ attached 5 5 6 17 ∷ [] }) 0
    (step.Replace (pos 3) (pos 6) (incoming_of [] []))
    ≡ moved 0 0 5 5 6 3 3 ∷ []

-- a watcher isn't told of its own seat, but of any other one over which it lies, whether it moves, goes or comes
abbrev pub TellsOthers : Type 0
TellsOthers =
    (span_callbacks (record { units = []; spans = seat 10 0 0 0 18 ∷ seat 11 1 0 0 18 ∷ [] }) 0
    (step.Replace (pos 0) (pos 0) (incoming_of (codes "a") []))
    ≡ moved 0 1 10 0 0 0 1 ∷ moved 0 0 11 0 0 0 1 ∷ [])
    × (span_callbacks (record { units = codes "a"; spans = seat 10 0 0 1 18 ∷ seat 11 1 0 1 18 ∷ [] }) 3 (step.Remove 10)
    ≡ removed 3 1 10 0 1 ∷ [])
    × (span_callbacks (record { units = codes "a"; spans = seat 10 0 0 1 18 ∷ seat 11 1 0 1 18 ∷ [] }) 1
    (step.Set 12 (pos 1) (pos 1) 34 (Watch 2))
    ≡ added 1 0 12 1 1 ∷ added 1 1 12 1 1 ∷ [])

-- a watcher that lay over a removed span is told of it, wherever the edit takes the watcher's seat
abbrev pub TellsRemoved : Type 0
TellsRemoved =
    span_callbacks (record { units = codes "hello"; spans = seat 10 0 0 5 18 ∷ attached 5 1 4 33 ∷ [] }) 0
    (step.Replace (pos 0) (pos 5) (incoming_of [] []))
    ≡ removed 0 0 5 1 4 ∷ []

-- first the spans that went, then those that moved, then those that came, each group in order of attachment; the seat of the
-- first watcher stands over those that go, and then behind the text that comes
abbrev pub TellsGroups : Type 0
TellsGroups =
    span_callbacks
    (record {
      units = codes "abcdef";
      spans = attached 8 5 6 17 ∷ attached 7 2 3 33 ∷ seat 10 0 2 2 34 ∷ attached 6 1 2 33 ∷ seat 11 1 3 6 18 ∷ attached 5 4 5 33 ∷ [];
    })
    2
    (step.Replace (pos 1) (pos 3) (incoming_of (codes "xyz") (tagged 21 1 3 33 ∷ tagged 20 0 3 33 ∷ [])))
    ≡ removed 2 0 7 2 3 ∷ removed 2 0 6 1 2
    ∷ moved 2 1 8 5 6 6 7 ∷ moved 2 0 11 3 6 4 7 ∷ moved 2 0 5 4 5 5 6 ∷ moved 2 1 5 4 5 5 6
    ∷ added 2 0 21 2 4 ∷ added 2 0 20 1 4 ∷ []

-- the watchers of one span are told by the priority of their seats, the highest first, and among equals in order of
-- attachment; the bits above the priority count for nothing
abbrev pub TellsByPriority : Type 0
TellsByPriority =
    span_callbacks
    (record {
      units = codes "abc";
      spans = seat 10 0 0 3 16777234 ∷ seat 11 1 0 3 65554 ∷ seat 12 2 0 3 131090 ∷ seat 13 3 0 3 65554 ∷ [];
    })
    0 (step.Set 5 (pos 0) (pos 2) 33 (Tag 1))
    ≡ added 0 2 5 0 2 ∷ added 0 1 5 0 2 ∷ added 0 3 5 0 2 ∷ added 0 0 5 0 2 ∷ []

-- an attached span that is set has moved, even where nothing of it differs, and also where it becomes a seat
abbrev pub TellsSets : Type 0
TellsSets =
    (span_callbacks (record { units = codes "abc"; spans = attached 5 1 2 33 ∷ seat 10 0 0 3 18 ∷ [] }) 0 (step.Set 5 (pos 1) (pos 2) 33 (Tag 1))
    ≡ moved 0 0 5 1 2 1 2 ∷ [])
    × (span_callbacks (record { units = codes "abc"; spans = attached 5 1 2 33 ∷ seat 10 0 0 3 18 ∷ [] }) 0 (step.Set 5 (pos 2) (pos 3) 34 (Watch 1))
    ≡ moved 0 0 5 1 2 2 3 ∷ [])

-- a span that is emptied, and one with its id that comes in the same edit
abbrev pub TellsOfOneId : Type 0
TellsOfOneId =
    span_callbacks (record { units = codes "abc"; spans = attached 5 1 2 33 ∷ seat 10 0 0 3 18 ∷ [] }) 0
    (step.Replace (pos 0) (pos 3) (incoming_of (codes "x") (tagged 5 0 1 33 ∷ [])))
    ≡ removed 0 0 5 1 2 ∷ added 0 0 5 0 1 ∷ []
