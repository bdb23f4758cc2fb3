-- One query for all seats of a state answers for each event of an edit.
use Rattle.std.proofs.Common.{◌≡◌, ◌∙◌, ◌<◌, ◌&&◌, ◌==◌, ◌++◌, ℕ, ℤ, zero, suc, Bool, true, false, not, cond, List, [], ◌∷◌, length, refl, sym, ap, subst, arith}
use Rattle.std.specs.Prelude.{filter, min, max}
use Rattle.std.specs.List.{All, AllByRecursion, flat_map}
use Rattle.edit_base.specs.declared.kinds.What.{What}
use Rattle.edit_base.specs.declared.kinds.What.TheVariants.{Tag, Face, Margin, Float, Watch, SelStart, SelEnd, Composing}
use Rattle.edit_base.specs.declared.rows.Pick.TheVariants.{Watches}
use Rattle.edit_model.specs.declared.events.SpanChange.TheVariants.{Added, Moved, Removed}
use Rattle.edit_model.specs.declared.events.SpanCallback.{SpanCallback}
use Rattle.edit_model.specs.declared.steps.Step.{Step}
use Rattle.edit_model.specs.declared.steps.Step.TheVariants as ask
use Rattle.edit_base.specs.declared.rows.Incoming.{Incoming}
use Rattle.edit_model.specs.State.{Span, State, place}
use Rattle.edit_base.specs.declared.rows.SpanRow.{SpanRow}
use Rattle.edit_model.specs.Rows.{spans_in}
use Rattle.edit_model.specs.Over.{lies_over, is_picked, is_watch, over}
use Rattle.edit_model.specs.WellFormed.{HasSlot, IsSeated, IsWellFormed}
use Rattle.edit_model.specs.Changed.{Effect, change_of, stepped}
use Rattle.edit_model.specs.Events.{IsCallback, listeners, slots_of, span_event, callbacks, beside, removed_told, moved_told, added_told, spans_told, span_callbacks}
use Rattle.edit_model.proofs.SpanLists.{all_each}
use Rattle.edit_model.proofs.OverLists.{over-among, filter-both}
use Rattle.edit_model.proofs.SpanEvents.{slots_below, callbacks-edit}
use Rattle.watcher_rounds.specs.Seats.{seats_in, slots_over, slots_beside, told_there, told_moved, seats_told}

pub all_from_each : {X : Type 0} (P : X → Type 0) (xs : List X) → AllByRecursion P xs → All P xs
all_from_each P [] each k d within = absurd (omega arith)
all_from_each P (x ∷ xs) each zero d within = each.0
all_from_each P (x ∷ xs) each (suc k) d within = all_from_each P xs each.1 k d (omega arith)

-- ---- no slots

no_watch : (what : What) → HasSlot 0 what → is_watch what ≡ false
no_watch (Watch slot) has = absurd (omega (arith, has))
no_watch (Tag number) has = refl
no_watch (Face number) has = refl
no_watch (Margin first rest) has = refl
no_watch (Float margin lines) has = refl
no_watch SelStart has = refl
no_watch SelEnd has = refl
no_watch Composing has = refl

passed_none : (here watch : Bool) (span : Span) (rest : List Span) → watch ≡ false → rest ≡ [] → cond (here && watch) (span ∷ rest) rest ≡ []
passed_none true watch span rest is none = rw is none
passed_none false watch span rest is none = none

filter-none : (start end : ℕ) (spans : List Span) → IsSeated 0 spans → filter (λ span. lies_over start end span && is_picked Watches span.what) spans ≡ []
filter-none start end [] seated = refl
filter-none start end (span ∷ spans) seated =
    passed_none (lies_over start end span) (is_watch span.what) span _ (no_watch span.what seated.0) (filter-none start end spans seated.1)

-- where there are no slots there are no seats
pub none_seated : (state : State) → IsSeated 0 state.spans → [] ≡ seats_in state
unfolding over
none_seated state seated = rw (filter-none 0 (length state.units) state.spans seated) refl

-- ---- over a range

pub over_range : (state : State) (start end : ℕ) (seats : List Span) → IsWellFormed state → seats ≡ seats_in state
    → slots_over start end seats ≡ slots_of (over start end Watches state.spans)
over_range state start end seats formed is =
    ap (λ seats. slots_over start end seats) is ∙ ap slots_of (over-among state.units state.spans start end Watches formed.spans)

-- those are the ones who are told of a replacement's text
pub told_text : (state : State) (asked : Step) (start end : ℤ) (incoming : Incoming) (s e : ℕ) → asked ≡ ask.Replace start end incoming
    → s ≡ place start → e ≡ place end → slots_of (over s e Watches state.spans) ≡ listeners state asked
unfolding listeners
told_text state asked start end incoming s e is starts ends = rw is (rw starts (rw ends refl))

pub below_count : (state : State) (count start end : ℕ) (slots : List ℕ) → IsSeated count state.spans
    → slots ≡ slots_of (over start end Watches state.spans) → All (λ slot. slot < count) slots
below_count state count start end slots seated is =
    subst (λ (slots : List ℕ). All (λ slot. slot < count) slots) (sym is)
    (all_from_each (λ slot. slot < count) (slots_of (over start end Watches state.spans)) (slots_below count start end state.spans seated))

turned : (one other : Bool) → (one && other) ≡ (other && one)
turned true true = refl
turned true false = refl
turned false true = refl
turned false false = refl

beside_seats : (state : State) (id start end : ℕ) → IsWellFormed state → slots_beside id start end (seats_in state) ≡ beside id start end state.spans
beside_seats state id start end formed =
    let other = λ (seat : Span). not (seat.id == id) in
    ap slots_of (sym (filter-both (lies_over start end) other (λ seat. other seat && lies_over start end seat) (seats_in state)
    (all_each (λ seat. (lies_over start end seat && other seat) ≡ (other seat && lies_over start end seat))
    (λ seat. turned (lies_over start end seat) (other seat)) (seats_in state)))
    ∙ ap (λ seats. filter other seats) (over-among state.units state.spans start end Watches formed.spans))

-- ---- the events of an edit

flat_map-none : {X Y : Type 0} (f : X → List Y) → ((x : X) → f x ≡ []) → (xs : List X) → flat_map f xs ≡ []
flat_map-none f none [] = refl
flat_map-none f none (x ∷ xs) = rw (none x) (flat_map-none f none xs)

pub no_rows : (rows : List SpanRow) → length rows ≡ 0 → spans_in rows ≡ []
no_rows [] none = refl
no_rows (row ∷ rows) none = absurd (omega (arith, none))

-- where there are no seats nobody is told
pub nobody_told : (depth last : ℕ) (before after : List Span) (effect : Effect) → before ≡ [] → after ≡ []
    → [] ≡ seats_told depth before after last effect
nobody_told depth last before after effect none none_after =
    let removed = flat_map-none (told_there depth Removed []) (λ span. refl) effect.removed in
    let moved = flat_map-none (told_moved depth last []) (λ shift. refl) effect.moved in
    let added = flat_map-none (told_there depth Added []) (λ span. refl) effect.added in
    rw none (rw none_after (rw removed (rw moved (rw added refl))))

flat_map-same : {X Y : Type 0} (f g : X → List Y) → ((x : X) → f x ≡ g x) → (xs : List X) → flat_map f xs ≡ flat_map g xs
flat_map-same f g same [] = refl
flat_map-same f g same (x ∷ xs) = ap (λ ys. ys ++ flat_map f xs) (same x) ∙ ap (λ ys. g x ++ ys) (flat_map-same f g same xs)

pub seats_told-same : (depth : ℕ) (old new : State) (effect : Effect) → IsWellFormed old → IsWellFormed new
    → seats_told depth (seats_in old) (seats_in new) (length new.units) effect ≡ spans_told depth old new effect
seats_told-same depth old new effect formed formed_new =
    let removed = flat_map-same (told_there depth Removed (seats_in old)) (removed_told depth old)
    (λ span. ap (callbacks (span_event depth Removed span span)) (beside_seats old span.id span.start span.end formed)) effect.removed in
    let moved = flat_map-same (told_moved depth (length new.units) (seats_in new)) (moved_told depth new)
    (λ shift. ap (callbacks (span_event depth Moved shift.from shift.to)) (beside_seats new shift.to.id (min shift.from.start shift.to.start)
    (min (max shift.from.end shift.to.end) (length new.units)) formed_new)) effect.moved in
    let added = flat_map-same (told_there depth Added (seats_in new)) (added_told depth new)
    (λ span. ap (callbacks (span_event depth Added span span)) (beside_seats new span.id span.start span.end formed_new)) effect.added in
    rw removed (rw moved (rw added refl))

-- ---- an edit that was done

-- what the seats before it and after it are told is what the definition says
pub are_told : (depth : ℕ) (old new : State) (asked : Step) (effect : Effect) (before : List Span) (told : List SpanCallback) → IsWellFormed old
    → IsWellFormed new → before ≡ seats_in old → new ≡ stepped old asked → effect ≡ change_of old asked
    → told ≡ seats_told depth before (seats_in new) (length new.units) effect → told ≡ span_callbacks old depth asked
unfolding span_callbacks
are_told depth old new asked effect before told formed formed_new seats state changed is =
    is ∙ ap (λ seats. seats_told depth seats (seats_in new) (length new.units) effect) seats
    ∙ seats_told-same depth old new effect formed formed_new
    ∙ ap (λ (it : State). spans_told depth old it effect) state
    ∙ ap (λ (it : Effect). spans_told depth old (stepped old asked) it) changed

-- and each may be told
pub may_be_told : (count depth : ℕ) (old new : State) (asked : Step) (told : List SpanCallback) → IsWellFormed old → IsWellFormed new
    → IsSeated count old.spans → IsSeated count new.spans → new ≡ stepped old asked → told ≡ span_callbacks old depth asked
    → All (IsCallback count depth) told
may_be_told count depth old new asked told formed formed_new seated seated_new state is =
    subst (λ (told : List SpanCallback). All (IsCallback count depth) told) (sym is)
    (all_from_each (IsCallback count depth) (span_callbacks old depth asked)
    (callbacks-edit count depth old asked formed (subst IsWellFormed state formed_new) seated
    (subst (λ (it : State). IsSeated count it.spans) state seated_new)))
