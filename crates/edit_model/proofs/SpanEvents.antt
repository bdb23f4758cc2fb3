-- What an edit tells of spans: how deep, to which slots, and of which places.
use Rattle.std.proofs.Common.{◌≡◌, ◌≤◌, ◌<◌, ◌&&◌, ◌||◌, ℕ, Bool, true, false, not, cond, List, [], ◌∷◌, ◌++◌, map, length, refl, sym, subst, ⊎_elim, arith, append-nil}
use Rattle.std.specs.Prelude.{filter}
use Rattle.std.specs.List.{AllByRecursion, flat_map}
use Rattle.std.proofs.lemmas.Bool.{cond_both, cases_Bool}
use Rattle.edit_base.specs.declared.bounds.TheConstants.Limits.{TEXT}
use Rattle.edit_base.specs.declared.kinds.What.{What}
use Rattle.edit_base.specs.declared.kinds.What.TheVariants.{Tag, Face, Margin, Float, Watch, SelStart, SelEnd, Composing}
use Rattle.edit_base.specs.declared.rows.Pick.TheVariants.{Watches}
use Rattle.edit_model.specs.declared.events.SpanEvent.{SpanEvent}
use Rattle.edit_model.specs.declared.events.SpanChange.{SpanChange}
use Rattle.edit_model.specs.declared.events.SpanChange.TheVariants.{Added, Moved, Removed}
use Rattle.edit_model.specs.declared.events.SpanCallback.{SpanCallback}
use Rattle.edit_model.specs.declared.steps.Step.{Step}
use Rattle.edit_model.specs.declared.steps.Step.TheVariants as edit_step
use Rattle.edit_model.specs.State.{Span, State, place}
use Rattle.edit_model.specs.Attached.{has_id, is_attached, with_span, spans_of}
use Rattle.edit_model.specs.Changed.{Shift, Effect, change_of, stepped, has_moved, shifts_by, spans_effect}
use Rattle.edit_model.specs.Selection.{selection_start, selection_end, is_of_selection, has_selection, with_ends, region_span, is_dropped}
use Rattle.edit_model.specs.Replaced.{is_emptied, moved_span, kept_spans, came_spans}
use Rattle.edit_model.specs.Over.{lies_over, is_picked, is_watch, over}
use Rattle.edit_model.specs.WellFormed.{HasSlot, IsSeated, IsSpanOver, IsWellFormed}
use Rattle.edit_model.specs.Minds.{IsToldSpan}
use Rattle.edit_model.specs.Events.{IsCallback, slot_of, slots_of, span_event, beside, callbacks, removed_told, moved_told, added_told, spans_told, span_callbacks}
use Rattle.edit_model.proofs.SpanLists.{all-filter, all-filter_passes, all-map, all-append, all-both, all-weaker, all_each}
use Rattle.edit_model.proofs.OverLists.{all-by_priority}

-- ---- lists

pub all-flat_map : {X Y : Type 0} (P : X → Type 0) (Q : Y → Type 0) (f : X → List Y) → ((x : X) → P x → AllByRecursion Q (f x))
    → (xs : List X) → AllByRecursion P xs → AllByRecursion Q (flat_map f xs)
all-flat_map P Q f step [] each = tt
all-flat_map P Q f step (x ∷ xs) each = all-append Q (f x) (flat_map f xs) (step x each.0) (all-flat_map P Q f step xs each.1)

-- what holds of each that a function gives
all-given : {X Y : Type 0} (Q : Y → Type 0) (f : X → Y) (xs : List X) (others : List Y) → AllByRecursion Q (map f xs ++ others)
    → AllByRecursion (λ x. Q (f x)) xs
all-given Q f [] others each = tt
all-given Q f (x ∷ xs) others each = (each.0, all-given Q f xs others each.1)

all-last : {X : Type 0} (P : X → Type 0) (xs : List X) (x : X) → AllByRecursion P (xs ++ x ∷ []) → P x
all-last P [] x each = each.0
all-last P (y ∷ ys) x each = all-last P ys x each.1

-- the span that was set stands among the others
set-stands : (P : Span → Type 0) (span : Span) (spans : List Span) → is_attached span.id spans ≡ true
    → AllByRecursion P (map (λ other. cond (has_id span.id other) span other) spans) → P span
set-stands P span [] attached each = absurd (cc)
set-stands P span (other ∷ others) attached each =
    ⊎_elim (λ is. subst (λ b. P (cond b span other)) is each.0)
    (λ is. set-stands P span others (subst (λ b. (b || is_attached span.id others) ≡ true) is attached) each.1)
    (cases_Bool (has_id span.id other))

holds-with_span : (P : Span → Type 0) (span : Span) (spans : List Span) → AllByRecursion P (with_span span spans) → P span
holds-with_span P span spans each =
    ⊎_elim (λ is. set-stands P span spans is
    (subst (λ b. AllByRecursion P (cond b (map (λ other. cond (has_id span.id other) span other) spans) (spans ++ span ∷ []))) is each))
    (λ is. all-last P spans span
    (subst (λ b. AllByRecursion P (cond b (map (λ other. cond (has_id span.id other) span other) spans) (spans ++ span ∷ []))) is each))
    (cases_Bool (is_attached span.id spans))

all-end : {X : Type 0} (P : X → Type 0) (xs ys : List X) → AllByRecursion P (xs ++ ys) → AllByRecursion P ys
all-end P [] ys each = each
all-end P (x ∷ xs) ys each = all-end P xs ys each.1

-- ---- callbacks

-- both places of a span are within the limit of a text
pub record IsShort (span : Span) : Type 0 where
  pub start : span.start ≤ TEXT
  pub end : span.end ≤ TEXT

abbrev pub IsShortShift : Shift → Type 0
IsShortShift shift = IsShort shift.from × IsShort shift.to

short-over : (units : List ℕ) → length units ≤ TEXT → (span : Span) → IsSpanOver units span → IsShort span
short-over units short span is = record { start = omega (arith, short, is.ordered, is.within); end = omega (arith, short, is.within) }

shorts : (state : State) → IsWellFormed state → AllByRecursion IsShort state.spans
shorts state formed = all-weaker (IsSpanOver state.units) IsShort (short-over state.units formed.short) state.spans formed.spans

slot_below : (count : ℕ) (what : What) → HasSlot count what → is_watch what ≡ true → slot_of what < count
slot_below count (Watch slot) has here = has
slot_below count (Tag number) has here = absurd (cc)
slot_below count (Face number) has here = absurd (cc)
slot_below count (Margin first rest) has here = absurd (cc)
slot_below count (Float margin lines) has here = absurd (cc)
slot_below count SelStart has here = absurd (cc)
slot_below count SelEnd has here = absurd (cc)
slot_below count Composing has here = absurd (cc)

second : (first rest : Bool) → (first && rest) ≡ true → rest ≡ true
second true rest both = both
second false rest both = absurd (cc)

-- the seats over a range have slots
seats_over : (count start end : ℕ) (spans : List Span) → IsSeated count spans
    → AllByRecursion (λ span. slot_of span.what < count) (over start end Watches spans)
unfolding over
seats_over count start end spans seated =
    let test = λ (span : Span). lies_over start end span && is_picked Watches span.what in
    let P = λ (span : Span). HasSlot count span.what × (test span ≡ true) in
    all-by_priority (λ span. slot_of span.what < count) (filter test spans)
    (all-weaker P (λ span. slot_of span.what < count)
    (λ span both. slot_below count span.what both.0 (second (lies_over start end span) (is_watch span.what) both.1))
    (filter test spans) (all-filter_passes (λ span. HasSlot count span.what) test spans seated))

pub slots_below : (count start end : ℕ) (spans : List Span) → IsSeated count spans → AllByRecursion (λ slot. slot < count) (slots_of (over start end Watches spans))
slots_below count start end spans seated =
    all-map (λ span. slot_of span.what < count) (λ slot. slot < count) (λ span. slot_of span.what) (λ span is. is) (over start end Watches spans)
    (seats_over count start end spans seated)

beside_below : (count id start end : ℕ) (spans : List Span) → IsSeated count spans → AllByRecursion (λ slot. slot < count) (beside id start end spans)
beside_below count id start end spans seated =
    all-map (λ span. slot_of span.what < count) (λ slot. slot < count) (λ span. slot_of span.what) (λ span is. is)
    (filter (λ seat. not (has_id id seat)) (over start end Watches spans))
    (all-filter (λ span. slot_of span.what < count) (λ seat. not (has_id id seat)) (over start end Watches spans) (seats_over count start end spans seated))

are-callbacks : (count : ℕ) (event : SpanEvent) (slots : List ℕ) → IsToldSpan event → AllByRecursion (λ slot. slot < count) slots
    → AllByRecursion (IsCallback count event.depth) (callbacks event slots)
are-callbacks count event slots places each =
    all-map (λ slot. slot < count) (IsCallback count event.depth) (λ slot. record { slot = slot; event = event })
    (λ slot below. record { slot = below; depth = refl; places = places }) slots each

told-places : (depth : ℕ) (change : SpanChange) (from to : Span) → IsShort from → IsShort to → IsToldSpan (span_event depth change from to)
told-places depth change from to one other = record { old_start = one.start; old_end = one.end; start = other.start; end = other.end }

pub callbacks-spans_told : (count depth : ℕ) (old new : State) (effect : Effect) → IsSeated count old.spans → IsSeated count new.spans
    → AllByRecursion IsShort effect.removed → AllByRecursion IsShortShift effect.moved → AllByRecursion IsShort effect.added
    → AllByRecursion (IsCallback count depth) (spans_told depth old new effect)
callbacks-spans_told count depth old new effect seated seated_new removed moved added =
    all-append (IsCallback count depth) (flat_map (removed_told depth old) effect.removed)
    (flat_map (moved_told depth new) effect.moved ++ flat_map (added_told depth new) effect.added)
    (all-flat_map IsShort (IsCallback count depth) (removed_told depth old)
    (λ span short. are-callbacks count _ _ (told-places depth Removed span span short short) (beside_below count _ _ _ old.spans seated)) effect.removed removed)
    (all-append (IsCallback count depth) (flat_map (moved_told depth new) effect.moved) (flat_map (added_told depth new) effect.added)
    (all-flat_map IsShortShift (IsCallback count depth) (moved_told depth new)
    (λ shift short. are-callbacks count _ _ (told-places depth Moved shift.from shift.to short.0 short.1) (beside_below count _ _ _ new.spans seated_new))
    effect.moved moved)
    (all-flat_map IsShort (IsCallback count depth) (added_told depth new)
    (λ span short. are-callbacks count _ _ (told-places depth Added span span short short) (beside_below count _ _ _ new.spans seated_new)) effect.added added))

-- ---- what an edit changed

pub record IsShortEffect (effect : Effect) : Type 0 where
  pub removed : AllByRecursion IsShort effect.removed
  pub moved : AllByRecursion IsShortShift effect.moved
  pub added : AllByRecursion IsShort effect.added

shifts-short : (move : Span → Span) (spans : List Span) → AllByRecursion IsShort spans → AllByRecursion (λ span. IsShort (move span)) spans
    → AllByRecursion IsShortShift (shifts_by move spans)
shifts-short move spans from to =
    all-map (λ span. IsShort span × IsShort (move span)) IsShortShift (λ span. record { from = span; to = move span }) (λ span both. both) spans
    (all-both IsShort (λ span. IsShort (move span)) spans from to)

pub short-effect : (state : State) (asked : Step) → AllByRecursion IsShort state.spans → AllByRecursion IsShort (stepped state asked).spans
    → IsShortEffect (change_of state asked)
unfolding change_of stepped
short-effect state (edit_step.Replace start end incoming) old new =
    let s = place start in
    let e = place end in
    let n = length incoming.units in
    let move = moved_span s e n state.units in
    let kept = kept_spans s e n state.spans in
    let came = came_spans state s e incoming in
    record {
      removed = all-filter IsShort (is_emptied s e n) state.spans old;
      moved = all-filter IsShortShift has_moved (shifts_by move kept)
          (shifts-short move kept (all-filter IsShort (λ span. not (is_emptied s e n span)) state.spans old) (all-given IsShort move kept came new));
      added = all-end IsShort (map move kept) came new;
    }
short-effect state (edit_step.Set id start end flags what) old new =
    let span : Span = record { id = id; start = place start; end = place end; flags = flags; what = what } in
    let short = holds-with_span IsShort span state.spans new in
    cond_both (is_attached id state.spans) (spans_effect [] (shifts_by (λ other. span) (spans_of id state.spans)) []) (spans_effect [] [] (span ∷ []))
    IsShortEffect
    (λ is. record {
      removed = tt;
      moved = shifts-short (λ other. span) (spans_of id state.spans) (all-filter IsShort (has_id id) state.spans old)
          (all_each (λ other. IsShort span) (λ other. short) (spans_of id state.spans));
      added = tt;
    })
    (λ is. record { removed = tt; moved = tt; added = (short, tt) })
short-effect state (edit_step.Remove id) old new = record { removed = all-filter IsShort (has_id id) state.spans old; moved = tt; added = tt }
short-effect state (edit_step.Select start end) old new =
    let move = with_ends (place start) (place end) in
    let came : List Span = selection_start (place start) ∷ selection_end (place end) ∷ [] in
    ⊎_elim (λ is.
    subst (λ b. IsShortEffect (cond b (spans_effect [] (filter has_moved (shifts_by move state.spans)) []) (spans_effect [] [] came))) (sym is)
    (record {
      removed = tt;
      moved = all-filter IsShortShift has_moved (shifts_by move state.spans)
          (shifts-short move state.spans old (all-given IsShort move state.spans []
          (subst (AllByRecursion IsShort) (sym (append-nil (map move state.spans)))
          (subst (λ b. AllByRecursion IsShort (cond b (map move state.spans) (state.spans ++ came))) is new))));
      added = tt;
    }))
    (λ is.
    subst (λ b. IsShortEffect (cond b (spans_effect [] (filter has_moved (shifts_by move state.spans)) []) (spans_effect [] [] came))) (sym is)
    (record {
      removed = tt;
      moved = tt;
      added = all-end IsShort state.spans came (subst (λ b. AllByRecursion IsShort (cond b (map move state.spans) (state.spans ++ came))) is new);
    }))
    (cases_Bool (has_selection state.spans))
short-effect state edit_step.Deselect old new = record { removed = all-filter IsShort is_of_selection state.spans old; moved = tt; added = tt }
short-effect state edit_step.Drop old new = record { removed = all-filter IsShort is_dropped state.spans old; moved = tt; added = tt }
short-effect state (edit_step.Mark start end) old new =
    record { removed = tt; moved = tt; added = all-end IsShort state.spans (region_span start end ∷ []) new }

-- ---- an edit's callbacks

pub callbacks-edit : (count depth : ℕ) (state : State) (asked : Step) → IsWellFormed state → IsWellFormed (stepped state asked)
    → IsSeated count state.spans → IsSeated count (stepped state asked).spans → AllByRecursion (IsCallback count depth) (span_callbacks state depth asked)
unfolding span_callbacks
callbacks-edit count depth state asked formed formed_new seated seated_new =
    let short = short-effect state asked (shorts state formed) (shorts (stepped state asked) formed_new) in
    callbacks-spans_told count depth state (stepped state asked) (change_of state asked) seated seated_new short.removed short.moved short.added

-- whatever the state, they have the depth of the edit
abbrev pub HasDepth : ℕ → SpanCallback → Type 0
HasDepth depth told = told.event.depth ≡ depth

deep-callbacks : (event : SpanEvent) (slots : List ℕ) → AllByRecursion (HasDepth event.depth) (callbacks event slots)
deep-callbacks event slots =
    all-map (λ slot. Unit {0}) (HasDepth event.depth) (λ slot. record { slot = slot; event = event }) (λ slot any. refl) slots
    (all_each (λ slot. Unit {0}) (λ slot. tt) slots)

all-deep : {X : Type 0} (depth : ℕ) (tell : X → List SpanCallback) → ((x : X) → AllByRecursion (HasDepth depth) (tell x)) → (xs : List X)
    → AllByRecursion (HasDepth depth) (flat_map tell xs)
all-deep depth tell each xs =
    all-flat_map (λ x. Unit {0}) (HasDepth depth) tell (λ x any. each x) xs (all_each (λ x. Unit {0}) (λ x. tt) xs)

pub depth-span_callbacks : (state : State) (depth : ℕ) (asked : Step) → AllByRecursion (HasDepth depth) (span_callbacks state depth asked)
unfolding span_callbacks
depth-span_callbacks state depth asked =
    let new = stepped state asked in
    let effect = change_of state asked in
    all-append (HasDepth depth) (flat_map (removed_told depth state) effect.removed)
    (flat_map (moved_told depth new) effect.moved ++ flat_map (added_told depth new) effect.added)
    (all-deep depth (removed_told depth state) (λ span. deep-callbacks _ _) effect.removed)
    (all-append (HasDepth depth) (flat_map (moved_told depth new) effect.moved) (flat_map (added_told depth new) effect.added)
    (all-deep depth (moved_told depth new) (λ shift. deep-callbacks _ _) effect.moved)
    (all-deep depth (added_told depth new) (λ span. deep-callbacks _ _) effect.added))
