-- What the run of an item comes to, edit by edit. The agenda machine leads there, as a law says.
use Rattle.std.specs.Prelude.{ℕ, zero, suc, ◌+◌, List, [], ◌∷◌, if◌then◌else◌}
use Rattle.edit_base.specs.declared.edits.Edit.{Edit}
use Rattle.edit_model.specs.declared.entries.LogEntry.TheVariants as entry
use Rattle.edit_model.specs.declared.events.TextEvent.{TextEvent}
use Rattle.edit_model.specs.declared.events.SpanCallback.{SpanCallback}
use Rattle.edit_model.specs.declared.items.Item.{Item}
use Rattle.edit_model.specs.declared.steps.Step.{Step}
use Rattle.edit_model.specs.State.{State}
use Rattle.edit_model.specs.Changed.{on_done}
use Rattle.edit_model.specs.Minds.{answer_after, answer_span, mind_before, mind_changed, mind_after, mind_span}
use Rattle.edit_model.specs.Events.{listeners, text_event, span_callbacks}
use Rattle.edit_model.specs.Machine.{Setup, Scene, resolved_edit, resolved, is_barred, as_brought, verdict_at, edit_logged, with_one_begun, changed_by, mind_in, with_callback}

-- what the edits of an answer make of a scene
abbrev pub Answered : Type 0
Answered = List Edit → Scene → Scene

-- one is told after the other
abbrev pub told_each : {X : Type 0} → (X → Scene → Scene) → List X → Scene → Scene
told_each tell [] s = s
told_each tell (one ∷ others) s = told_each tell others (tell one s)

abbrev pub before_told : Setup → TextEvent → ℕ → Scene → Scene
before_told r event slot s = with_callback r slot (entry.Before slot event) (mind_before (mind_in r slot s) event s.state.units) s

abbrev pub changed_told : Setup → TextEvent → ℕ → Scene → Scene
changed_told r event slot s = with_callback r slot (entry.Changed slot event) (mind_changed (mind_in r slot s) event s.state.units) s

-- what a watcher answers then is done at once
abbrev pub after_told : Setup → TextEvent → Answered → ℕ → Scene → Scene
after_told r event answered slot s =
    answered (answer_after (mind_in r slot s) event s.state.units)
    (with_callback r slot (entry.After slot event) (mind_after (mind_in r slot s) event s.state.units) s)

-- the same where it is told of a span
abbrev pub span_told : Setup → Answered → SpanCallback → Scene → Scene
span_told r answered told s =
    answered (answer_span (mind_in r told.slot s) told.event s.state.units)
    (with_callback r told.slot (entry.Span told.slot told.event) (mind_span (mind_in r told.slot s) told.event s.state.units) s)

-- behind an edit that is done: all are told before it, it is made, all are told right after it, and then each may answer; and
-- then each that is told of a span
abbrev pub behind_change : Setup → ℕ → Step → Answered → State → Scene → Scene
behind_change r depth asked answered state s =
    told_each (span_told r answered) (span_callbacks state depth asked)
    (told_each (after_told r (text_event depth asked) answered) (listeners state asked)
    (told_each (changed_told r (text_event depth asked)) (listeners state asked)
    (changed_by asked
    (told_each (before_told r (text_event depth asked)) (listeners state asked) s))))

-- behind an edit that was judged and logged: where it isn't done, nothing follows
abbrev pub behind_edit : Setup → ℕ → Step → Answered → Scene → Scene → Scene
behind_edit r depth asked answered judged_in s =
    on_done (verdict_at r depth asked judged_in.state judged_in.begun)
    (behind_change r depth (as_brought r asked judged_in.state) answered judged_in.state s) s

-- behind the edits of an answer: one that is barred is logged, and drops those behind it
abbrev pub behind_answer : Setup → ℕ → Answered → List Edit → Scene → Scene
behind_answer r depth answered [] s = s
behind_answer r depth answered (first ∷ others) s =
    if is_barred r.depth depth s.begun
    then edit_logged r depth (resolved_edit first) s
    else behind_answer r depth answered others
    (behind_edit r depth (resolved_edit first) answered s (with_one_begun (edit_logged r depth (resolved_edit first) s)))

-- the answers at a depth, below which so many more depths may be; where none may, all edits below are barred
abbrev pub answered_at : Setup → ℕ → ℕ → Answered
answered_at r zero depth edits s = behind_answer r depth (λ deeper t. t) edits s
answered_at r (suc more) depth edits s = behind_answer r depth (answered_at r more (depth + 1)) edits s

-- the scene behind an item
unfoldable pub outcome : Setup → Item → Scene → Scene
outcome r it s =
    behind_edit r 0 (resolved s.state it) (answered_at r r.depth 1) s (edit_logged r 0 (resolved s.state it) s)

-- the scene behind a command's items, one run behind the other: the nested edits of all of them are counted together
abbrev pub outcomes : Setup → List Item → Scene → Scene
outcomes r items s = told_each (outcome r) items s
