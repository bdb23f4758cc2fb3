-- What the definitions mean, as laws.
use Rattle.std.specs.Prelude.{ℕ, ◌≡◌, ◌≢◌, ◌<◌, ◌≤◌, ◌+◌, ◌&&◌, ◌⊎◌, true, false, List, [], length, take, filter, slice_index, if◌then◌else◌}
use Rattle.std.specs.List.{All}
use Rattle.edit_base.specs.declared.rows.Incoming.{Incoming}
use Rattle.edit_base.specs.declared.verdicts.Verdict.{Verdict}
use Rattle.edit_base.specs.declared.verdicts.Verdict.TheVariants.{Done}
use Rattle.edit_model.specs.declared.kinds.Kind.{Kind}
use Rattle.edit_model.specs.declared.kinds.EndKind.{EndKind}
use Rattle.edit_model.specs.declared.kinds.EndKind.TheVariants as end
use Rattle.edit_model.specs.declared.filters.Filter.{Filter}
use Rattle.edit_model.specs.declared.filters.Filter.TheVariants.{Length}
use Rattle.edit_model.specs.declared.steps.Step.{Step}
use Rattle.edit_model.specs.declared.steps.Step.TheVariants as step
use Rattle.edit_model.specs.State.{Span, State}
use Rattle.edit_model.specs.Flags.{start_kind, end_kind, is_point_mark, is_paragraph}
use Rattle.edit_model.specs.Boundaries.{is_boundary, next_boundary}
use Rattle.edit_model.specs.EndTable.{end_of}
use Rattle.edit_model.specs.Replaced.{spliced, spliced_length}
use Rattle.edit_model.specs.WellFormed.{IsWellFormed, IsSeated}
use Rattle.edit_model.specs.Verdicts.{judged}
use Rattle.edit_model.specs.Selection.{has_region}
use Rattle.edit_model.specs.Over.{is_watch}
use Rattle.edit_model.specs.Changed.{stepped, change_of, state_after}
use Rattle.edit_model.specs.Log.{logged}
use Rattle.edit_model.specs.Attached.{has_id, is_attached, spans_of}
use Rattle.edit_model.specs.Brought.{IsOrdered, IsBrought, has_place, newcomers}
use Rattle.edit_model.specs.Filtered.{is_high, is_low, passed, kept_before, filtered, filtered_step}

-- ---- edits

-- an edit that isn't done leaves the state as it was
abbrev pub OthersChangeNothing : Type 0
OthersChangeNothing = (state : State) (slots : ℕ) (asked : Step) → judged state slots asked ≢ Done → state_after state slots asked ≡ state

-- what an edit brings has its ends in order, and a composing region is marked where none is
abbrev pub BringsOrdered : State → Step → Type 0
BringsOrdered state (step.Replace start end incoming) = All IsOrdered incoming.spans
BringsOrdered state (step.Set id start end flags what) = Unit {0}
BringsOrdered state (step.Remove id) = Unit {0}
BringsOrdered state (step.Select start end) = Unit {0}
BringsOrdered state step.Deselect = Unit {0}
BringsOrdered state step.Drop = Unit {0}
BringsOrdered state (step.Mark start end) = (start ≤ end) × (has_region state.spans ≡ false)

-- from a well formed state every edit leads to a well formed state
abbrev pub KeepsWellFormed : Type 0
KeepsWellFormed = (state : State) (slots : ℕ) (asked : Step) → BringsOrdered state asked → IsWellFormed state
    → IsWellFormed (state_after state slots asked)

-- and each watcher keeps a slot
abbrev pub KeepsSeats : Type 0
KeepsSeats = (state : State) (slots : ℕ) (asked : Step) → IsSeated slots state.spans → IsSeated slots (state_after state slots asked).spans

-- there are no more watchers than slots
abbrev pub HasFewWatchers : Type 0
HasFewWatchers = (state : State) (slots : ℕ) → IsWellFormed state → IsSeated slots state.spans
    → length (filter (λ span. is_watch span.what) state.spans) ≤ slots

-- ---- incoming spans

-- of the spans of an id that come, none is attached where the id is attached already, and else the first that has a place
abbrev pub AttachesFirst : Type 0
AttachesFirst = (units : List ℕ) (attached spans : List Span) (id : ℕ) → spans_of id (newcomers units attached spans)
    ≡ (if is_attached id attached then [] else take 1 (filter (λ span. has_id id span && has_place units span) spans))

-- ---- filters

-- a filter takes places to places of what it lets through, in order
abbrev pub TakesPlaces : Type 0
TakesPlaces = (it : Filter) (others : ℕ) (units : List ℕ) (x y : ℕ) → x ≤ y
    → (kept_before it others units x ≤ kept_before it others units y) × (kept_before it others units y ≤ length (passed it others units))

-- a filter that keeps every unit leaves places alone
abbrev pub LeavesPlaces : Type 0
LeavesPlaces = (it : Filter) (others : ℕ) (units : List ℕ) (x : ℕ) → length (passed it others units) ≡ length units → x ≤ length units
    → kept_before it others units x ≡ x

-- a length filter that cuts a text never cuts between the two units of a pair
abbrev pub CutsNoPair : Type 0
CutsNoPair = (greatest others : ℕ) (units : List ℕ) (at : ℕ) → at + 1 ≡ length (passed (Length greatest) others units) → at + 1 < length units
    → (is_high (slice_index units at) && is_low (slice_index units (at + 1))) ≡ false

-- a text that a length filter leaves, with the others that stay, isn't longer than the filter says, unless the others are
abbrev pub KeepsLength : Type 0
KeepsLength = (greatest others : ℕ) (units : List ℕ) → others ≤ greatest → length (passed (Length greatest) others units) + others ≤ greatest

-- filtered, what a replacement brings is still what it may bring, with every span in the text that comes
abbrev pub FiltersBrought : Type 0
FiltersBrought = (filters : List Filter) (incoming : Incoming) (length_before s e : ℕ) → IsBrought incoming
    → IsBrought (filtered filters incoming length_before s e)
    × (length (filtered filters incoming length_before s e).units ≤ length incoming.units)
    × (length (filtered filters incoming length_before s e).spans ≡ length incoming.spans)
    × All (λ span. span.end ≤ length (filtered filters incoming length_before s e).units) (filtered filters incoming length_before s e).spans

-- what an edit does where no filter is set it does with its text as given: places behind the text that comes change nothing
abbrev pub ClippingChangesNothing : Type 0
ClippingChangesNothing = (state : State) (slots : ℕ) (asked : Step)
    → (judged state slots (filtered_step [] state asked) ≡ judged state slots asked)
    × (stepped state (filtered_step [] state asked) ≡ stepped state asked)
    × (change_of state (filtered_step [] state asked) ≡ change_of state asked)
    × ((verdict : Verdict) → logged state (filtered_step [] state asked) verdict ≡ logged state asked verdict)

-- ---- ends

-- an end of a span over a text stays in the text
abbrev pub StaysInText : Type 0
StaysInText = (kind : EndKind) (x s e n : ℕ) (units : List ℕ) → s ≤ e → e ≤ length units → x ≤ length units
    → end_of kind x s e n units ≤ spliced_length (length units) s e n

-- the ends of a span that isn't emptied stay in order, and one that may not be empty isn't
abbrev pub KeepsOrder : Type 0
KeepsOrder = (kind : Kind) (x y s e n : ℕ) (units : List ℕ) → s ≤ e → e ≤ length units → x ≤ y → y ≤ length units
    → (is_point_mark kind ≡ true → x < y)
    → (is_paragraph kind ≡ true → (is_boundary units x ≡ true) × (is_boundary units y ≡ true))
    → ((is_point_mark kind ≡ true) × (s < e) × (s ≤ x) × (y ≤ e) × ((n ≡ 0) ⊎ ((s < x) ⊎ (y < e))) → ⊥)
    → (end_of (start_kind kind) x s e n units ≤ end_of (end_kind kind) y s e n units)
    × (is_point_mark kind ≡ true → end_of (start_kind kind) x s e n units < end_of (end_kind kind) y s e n units)

-- a paragraph end stays at a boundary
abbrev pub KeepsBoundaries : Type 0
KeepsBoundaries = (x s e : ℕ) (brought units : List ℕ) → s ≤ e → e ≤ length units → is_boundary units x ≡ true
    → is_boundary (spliced units s e brought) (end_of end.Paragraph x s e (length brought) units) ≡ true

-- the boundary that a paragraph end is pulled to is the least one behind the range, else the length
abbrev pub PullsToLeast : Type 0
PullsToLeast = (units : List ℕ) (e : ℕ) → e < length units
    → (e < next_boundary units e) × (is_boundary units (next_boundary units e) ≡ true)
    × ((place : ℕ) → e < place → is_boundary units place ≡ true → next_boundary units e ≤ place)
