-- What a watcher keeps, what it answers, and what it keeps then.
use Rattle.std.specs.Prelude.{ℕ, pos, ◌+◌, ◌-◌, ◌≤◌, ◌&&◌, ◌==◌, Bool, true, false, not, List, [], ◌∷◌, length, min, max, nat_lt, nat_le, slice_index, Option, None, Some, if◌then◌else◌}
use Rattle.std.specs.List.{find, range_with_len}
use Rattle.std.specs.Option.{option_map_or}
use Rattle.edit_base.specs.declared.bounds.TheConstants.Limits.{TEXT}
use Rattle.edit_base.specs.declared.edits.Edit.{Edit}
use Rattle.edit_base.specs.declared.edits.Edit.TheVariants.{Replace, SetSpan, RemoveSpan}
use Rattle.edit_base.specs.declared.kinds.What.TheVariants.{Tag, Face}
use Rattle.edit_model.specs.declared.events.TextEvent.{TextEvent}
use Rattle.edit_model.specs.declared.events.SpanEvent.{SpanEvent}
use Rattle.edit_model.specs.declared.events.SpanChange.{SpanChange}
use Rattle.edit_model.specs.declared.events.SpanChange.TheVariants.{Added, Moved, Removed}

-- a kind, whether it was loaded, the numbers it was loaded with, how often it was called, and the place it keeps
pub record Mind : Type 0 where
  pub kind : ℕ
  pub loaded : Bool
  pub numbers : List ℕ
  pub calls : ℕ
  pub place : Option ℕ

-- ---- what is said of an event

-- a watcher's answer to a change of the text, and the place that it keeps then
pub record Said : Type 0 where
  pub edits : List Edit
  pub keeps : Option ℕ

-- no answer, and the place stays
abbrev pub says_nothing : Mind → Said
says_nothing mind = record { edits = []; keeps = mind.place }

-- these edits, and the place stays
abbrev pub says : (Mind → TextEvent → List ℕ → List Edit) → Mind → TextEvent → List ℕ → Said
says edits mind event units = record { edits = edits mind event units; keeps = mind.place }

-- what the first line says whose test holds, and else this
abbrev pub first_said : List (Bool × Said) → Said → Said
first_said [] other = other
first_said (line ∷ lines) other = if line.0 then line.1 else first_said lines other

-- one edit: the units from a place to another become these
abbrev pub replaces : ℕ → ℕ → List ℕ → List Edit
replaces start end units = Replace (pos start) (pos end) (record { items = units }) ∷ []

-- the edit that a place asks for, where there is one
abbrev pub edit_at : (ℕ → List Edit) → Option ℕ → List Edit
edit_at edits at = option_map_or edits at []

-- the least place from one on, before another, that passes a test
abbrev pub first_place : (ℕ → Bool) → ℕ → ℕ → Option ℕ
first_place test from to = find test (range_with_len from (to - from))

-- where the units that came end, or where the text does
abbrev pub end_of : TextEvent → List ℕ → ℕ
end_of event units = min (event.start + event.after) (length units)

-- units came, and the first of them stands in the text
abbrev pub has_come : TextEvent → List ℕ → Bool
has_come event units = nat_lt 0 event.after && nat_lt event.start (length units)

-- the unit at a place of the text is this one
abbrev pub has_unit : List ℕ → ℕ → ℕ → Bool
has_unit units at unit = nat_lt at (length units) && slice_index units at == unit

-- ---- the numbers of a kind

-- a number that is a UTF-16 unit
abbrev pub is_unit : ℕ → Bool
is_unit number = nat_lt number 65536

abbrev pub no_numbers : List ℕ → Bool
no_numbers numbers = length numbers == 0

-- two units that differ
abbrev pub two_units : List ℕ → Bool
two_units numbers =
    length numbers == 2 && is_unit (slice_index numbers 0) && is_unit (slice_index numbers 1)
    && not (slice_index numbers 0 == slice_index numbers 1)

-- one length of a text
abbrev pub one_length : List ℕ → Bool
one_length numbers = length numbers == 1 && nat_le (slice_index numbers 0) TEXT

-- a number that is the id of no kept span
abbrev pub is_id : ℕ → Bool
is_id number = nat_le 3 number

-- an id and a face
abbrev pub id_and_face : List ℕ → Bool
id_and_face numbers = length numbers == 2 && is_id (slice_index numbers 0) && nat_le (slice_index numbers 1) 255

-- two ids that differ
abbrev pub two_ids : List ℕ → Bool
two_ids numbers =
    length numbers == 2 && is_id (slice_index numbers 0) && is_id (slice_index numbers 1)
    && not (slice_index numbers 0 == slice_index numbers 1)

-- ---- the kinds

-- a kind: the numbers that it may be loaded with, what it says behind a change of the text, and what it answers where a
-- span came, moved or went
pub record Rules : Type 0 where
  pub fits : List ℕ → Bool
  pub after : Mind → TextEvent → List ℕ → Said
  pub span : Mind → SpanEvent → List ℕ → List Edit

abbrev pub no_answer : Mind → SpanEvent → List ℕ → List Edit
no_answer mind event units = []

-- a kind that nobody made takes no numbers and says nothing
abbrev pub unknown : Rules
unknown = record { fits = λ numbers. false; after = λ mind event units. says_nothing mind; span = no_answer }

-- note: takes no numbers and says nothing
abbrev pub note : Rules
note = record { fits = no_numbers; after = λ mind event units. says_nothing mind; span = no_answer }

-- ---- pair: closes what is opened

abbrev pub opener : Mind → ℕ
opener mind = slice_index mind.numbers 0

abbrev pub closer : Mind → ℕ
closer mind = slice_index mind.numbers 1

-- one unit came, and none went
abbrev pub is_typed : TextEvent → Bool
is_typed event = event.before == 0 && event.after == 1

-- the place that is kept, where one is, is this one
abbrev pub is_kept : Option ℕ → ℕ → Bool
is_kept None at = false
is_kept (Some kept) at = kept == at

-- this opener was typed
abbrev pub opens : ℕ → TextEvent → List ℕ → Bool
opens unit event units = is_typed event && has_unit units event.start unit

-- a command typed this closer at the place that is kept, and a closer stands behind it
abbrev pub types_over : ℕ → Option ℕ → TextEvent → List ℕ → Bool
types_over unit place event units =
    event.depth == 0 && is_typed event && is_kept place event.start && has_unit units event.start unit && has_unit units (event.start + 1) unit

-- behind an opener comes its closer, whose place is kept; a closer that is typed before that one takes its place; with any
-- other change that a command makes the place is forgotten
abbrev pub pair_lines : Mind → TextEvent → List ℕ → List (Bool × Said)
pair_lines mind event units =
    (opens (opener mind) event units, record { edits = replaces (event.start + 1) (event.start + 1) (closer mind ∷ []); keeps = Some (event.start + 1) })
    ∷ (types_over (closer mind) mind.place event units, record { edits = replaces (event.start + 1) (event.start + 2) []; keeps = None })
    ∷ (event.depth == 0, record { edits = []; keeps = None })
    ∷ []

abbrev pub pair : Rules
pair = record { fits = two_units; after = λ mind event units. first_said (pair_lines mind event units) (says_nothing mind); span = no_answer }

-- ---- swap: has one unit stand for another

-- the first unit to be swapped among those that came becomes the other
abbrev pub swap_edits : Mind → TextEvent → List ℕ → List Edit
swap_edits mind event units =
    edit_at (λ at. replaces at (at + 1) (slice_index mind.numbers 1 ∷ []))
    (first_place (λ at. slice_index units at == slice_index mind.numbers 0) event.start (end_of event units))

abbrev pub swap : Rules
swap = record { fits = two_units; after = says swap_edits; span = no_answer }

-- ---- limit: keeps the text to a length

-- the units behind the length go
abbrev pub limit_edits : Mind → TextEvent → List ℕ → List Edit
limit_edits mind event units =
    if nat_lt (slice_index mind.numbers 0) (length units) then replaces (slice_index mind.numbers 0) (length units) [] else []

abbrev pub limit : Rules
limit = record { fits = one_length; after = says limit_edits; span = no_answer }

-- ---- squeeze: leaves one space of many

-- two spaces stand here, one behind the other
abbrev pub has_spaces : List ℕ → ℕ → Bool
has_spaces units at = has_unit units at 32 && has_unit units (at + 1) 32

-- the second of the first two spaces that stand together goes, from the unit before those that came to the last of them
abbrev pub squeeze_edits : Mind → TextEvent → List ℕ → List Edit
squeeze_edits mind event units =
    edit_at (λ at. replaces (at + 1) (at + 2) []) (first_place (has_spaces units) (max event.start 1 - 1) (event.start + event.after))

abbrev pub squeeze : Rules
squeeze = record { fits = no_numbers; after = says squeeze_edits; span = no_answer }

-- ---- paint: gives what comes a face

-- a span of the face comes over the units that came
abbrev pub paint_edits : Mind → TextEvent → List ℕ → List Edit
paint_edits mind event units =
    if has_come event units
    then SetSpan (slice_index mind.numbers 0) (pos event.start) (pos (end_of event units)) 33 (Face (slice_index mind.numbers 1)) ∷ []
    else []

abbrev pub paint : Rules
paint = record { fits = id_and_face; after = says paint_edits; span = no_answer }

-- ---- follow: has one span stand where another stands

-- the target comes or goes as the followed span does
abbrev pub follow_change : SpanChange → ℕ → SpanEvent → List Edit
follow_change Added target event = SetSpan target (pos event.start) (pos event.end) 34 (Tag 0) ∷ []
follow_change Moved target event = SetSpan target (pos event.start) (pos event.end) 34 (Tag 0) ∷ []
follow_change Removed target event = RemoveSpan target ∷ []

abbrev pub follow_edits : Mind → SpanEvent → List ℕ → List Edit
follow_edits mind event units =
    if event.id == slice_index mind.numbers 0 then follow_change event.change (slice_index mind.numbers 1) event else []

abbrev pub follow : Rules
follow = record { fits = two_ids; after = λ mind event units. says_nothing mind; span = follow_edits }

-- ---- echo: says again what is said

-- units came where none went, and the first of them stands in the text
abbrev pub is_heard : TextEvent → List ℕ → Bool
is_heard event units = event.before == 0 && has_come event units

-- the first unit of an insertion comes once more, before it
abbrev pub echo_lines : Mind → TextEvent → List ℕ → List (Bool × Said)
echo_lines mind event units =
    (is_heard event units, record { edits = replaces event.start event.start (slice_index units event.start ∷ []); keeps = mind.place })
    ∷ []

abbrev pub echo : Rules
echo = record { fits = no_numbers; after = λ mind event units. first_said (echo_lines mind event units) (says_nothing mind); span = no_answer }

-- ---- the table of kinds

-- the rules of a kind's row
abbrev pub row_of : ℕ → List (ℕ × Rules) → Rules
row_of kind [] = unknown
row_of kind (row ∷ rows) = if kind == row.0 then row.1 else row_of kind rows

-- the kinds, each with its number
abbrev pub kinds : List (ℕ × Rules)
kinds =
    (0, note)
    ∷ (1, pair)
    ∷ (2, swap)
    ∷ (3, limit)
    ∷ (4, squeeze)
    ∷ (5, paint)
    ∷ (6, follow)
    ∷ (7, echo)
    ∷ []

abbrev pub rules_of : ℕ → Rules
rules_of kind = row_of kind kinds

-- ---- minds

-- before it is loaded: no numbers, no calls, no place
abbrev pub blank_mind : ℕ → Mind
blank_mind kind = record { kind = kind; loaded = false; numbers = []; calls = 0; place = None }

-- a blank mind may be loaded with numbers that fit its kind
abbrev pub may_load : Mind → List ℕ → Bool
may_load mind numbers = not mind.loaded && (rules_of mind.kind).fits numbers

-- the mind loaded with these numbers, where it may be
unfoldable pub loaded_mind : Mind → List ℕ → Option Mind
loaded_mind mind numbers =
    if may_load mind numbers then Some (record { kind = mind.kind; loaded = true; numbers = numbers; calls = 0; place = None }) else None

-- one more, up to the greatest number of 32 bits
abbrev pub one_call_more : ℕ → ℕ
one_call_more calls = if nat_lt calls 4294967295 then calls + 1 else calls

-- a loaded mind counts a call; a blank one stays
abbrev pub called : Mind → Mind
called mind = record mind { calls = if mind.loaded then one_call_more mind.calls else mind.calls }

-- ---- callbacks, each of an event and the text that is there then

-- what a loaded watcher says behind a change of the text; a blank one says nothing
abbrev pub said_after : Mind → TextEvent → List ℕ → Said
said_after mind event units = if mind.loaded then (rules_of mind.kind).after mind event units else says_nothing mind

-- the mind once it was told that the text will change
unfoldable pub mind_before : Mind → TextEvent → List ℕ → Mind
mind_before mind event units = called mind

-- the mind once it was told that the text changed
unfoldable pub mind_changed : Mind → TextEvent → List ℕ → Mind
mind_changed mind event units = called mind

-- the edits that it asks for behind a change of the text
unfoldable pub answer_after : Mind → TextEvent → List ℕ → List Edit
answer_after mind event units = (said_after mind event units).edits

-- the mind once it has answered that
unfoldable pub mind_after : Mind → TextEvent → List ℕ → Mind
mind_after mind event units = record (called mind) { place = (said_after mind event units).keeps }

-- the edits that it asks for where a span came, moved or went
unfoldable pub answer_span : Mind → SpanEvent → List ℕ → List Edit
answer_span mind event units = if mind.loaded then (rules_of mind.kind).span mind event units else []

-- the mind once it has answered that
unfoldable pub mind_span : Mind → SpanEvent → List ℕ → Mind
mind_span mind event units = called mind

-- ---- what may be told

-- no place and no number of units of the event is above the limit of a text
pub record IsTold (event : TextEvent) : Type 0 where
  pub start : event.start ≤ TEXT
  pub before : event.before ≤ TEXT
  pub after : event.after ≤ TEXT

pub record IsToldSpan (event : SpanEvent) : Type 0 where
  pub old_start : event.old_start ≤ TEXT
  pub old_end : event.old_end ≤ TEXT
  pub start : event.start ≤ TEXT
  pub end : event.end ≤ TEXT
