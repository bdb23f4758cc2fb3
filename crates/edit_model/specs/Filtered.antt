-- What the filters make of an incoming text, and where they take the places of the spans over it.
use Rattle.std.specs.Prelude.{ℕ, ℤ, ◌-◌, ◌&&◌, ◌||◌, Bool, not, List, length, map, filter, take, min, nat_le, nat_lt, int_lt, slice_index, if◌then◌else◌}
use Rattle.std.specs.List.{fold, list_any}
use Rattle.edit_base.specs.declared.rows.Incoming.{Incoming}
use Rattle.edit_base.specs.declared.rows.NewSpan.{NewSpan}
use Rattle.edit_model.specs.declared.filters.Filter.{Filter}
use Rattle.edit_model.specs.declared.filters.Filter.TheVariants.{Length, AsciiUpper, Allow, NoNewline}
use Rattle.edit_model.specs.declared.filters.UnitRange.{UnitRange}
use Rattle.edit_model.specs.declared.steps.Step.{Step}
use Rattle.edit_model.specs.declared.steps.Step.TheVariants as step
use Rattle.edit_model.specs.State.{State, place}
use Rattle.edit_model.specs.Boundaries.{is_newline}
use Rattle.edit_model.specs.Verdicts.{goes_beyond, goes_below}

-- ---- one filter

-- the first of a surrogate pair
abbrev pub is_high : ℕ → Bool
is_high unit = nat_le 55296 unit && nat_lt unit 56320

-- the second of a surrogate pair
abbrev pub is_low : ℕ → Bool
is_low unit = nat_le 56320 unit && nat_lt unit 57344

-- how many of the first units are kept where so many fit: one fewer where the last of them is the first of a pair
abbrev pub kept_first : ℕ → List ℕ → ℕ
kept_first fit units =
    if nat_le (length units) fit then length units
    else (if is_high (slice_index units (fit - 1)) then fit - 1 else fit)

-- `a` to `z` as `A` to `Z`
abbrev pub upper : ℕ → ℕ
upper unit = if nat_le 97 unit && nat_le unit 122 then unit - 32 else unit

abbrev pub is_in : ℕ → UnitRange → Bool
is_in unit range = nat_le range.low unit && nat_le unit range.high

abbrev pub is_allowed : List UnitRange → ℕ → Bool
is_allowed ranges unit = list_any (is_in unit) ranges

abbrev pub is_no_newline : ℕ → Bool
is_no_newline unit = not (is_newline unit)

-- what a filter lets through of some units that come to so many others
abbrev pub passed : Filter → ℕ → List ℕ → List ℕ
passed (Length greatest) others units = take (kept_first (greatest - others) units) units
passed AsciiUpper others units = map upper units
passed (Allow ranges) others units = filter (is_allowed ranges) units
passed NoNewline others units = filter is_no_newline units

-- how many of the units before a place it keeps
abbrev pub kept_before : Filter → ℕ → List ℕ → ℕ → ℕ
kept_before (Length greatest) others units at = min at (kept_first (greatest - others) units)
kept_before AsciiUpper others units at = length (take at units)
kept_before (Allow ranges) others units at = length (filter (is_allowed ranges) (take at units))
kept_before NoNewline others units at = length (filter is_no_newline (take at units))

-- ---- all filters

-- the span with its places taken there
abbrev pub at_places : (ℕ → ℕ) → NewSpan → NewSpan
at_places to span = record { id = span.id; start = to span.start; end = to span.end; flags = span.flags; what = span.what }

-- places behind the incoming units go to their end
abbrev pub clipped : Incoming → Incoming
clipped incoming = record {
  units = incoming.units;
  spans = map (at_places (λ at. min at (length incoming.units))) incoming.spans;
  composing = incoming.composing;
}

-- what one filter makes of an incoming text that comes to so many other units
abbrev pub through : ℕ → Incoming → Filter → Incoming
through others incoming it = record {
  units = passed it others incoming.units;
  spans = map (at_places (kept_before it others incoming.units)) incoming.spans;
  composing = incoming.composing;
}

-- what the filters make, each of what the one before it left, of a text for the units [s, e) of so many
unfoldable pub filtered : List Filter → Incoming → ℕ → ℕ → ℕ → Incoming
filtered filters incoming length_before s e = fold (through (length_before - (e - s))) (clipped incoming) filters

-- ---- edits

-- the places lie in the text, in order
abbrev pub lies_within : State → ℤ → ℤ → Bool
lies_within state start end = not (int_lt end start || goes_beyond state start end || goes_below start end)

-- a replacement whose places lie in the text brings what the filters make of its text; any other edit stays
abbrev pub filtered_step : List Filter → State → Step → Step
filtered_step filters state (step.Replace start end incoming) =
    step.Replace start end (if lies_within state start end then filtered filters incoming (length state.units) (place start) (place end) else incoming)
filtered_step filters state (step.Set id start end flags what) = step.Set id start end flags what
filtered_step filters state (step.Remove id) = step.Remove id
filtered_step filters state (step.Select start end) = step.Select start end
filtered_step filters state step.Deselect = step.Deselect
filtered_step filters state step.Drop = step.Drop
filtered_step filters state (step.Mark start end) = step.Mark start end
