-- What a line of a trace asks for, or its first fault, by the value that `serde_json` promises for its bytes.
use Rattle.std.specs.Prelude.{ℕ, ◌&&◌, ◌||◌, ℤ, pos, List, [], ◌∷◌, length, Bool, not, nat_lt, nat_le, int_le, codes, if◌then◌else◌}
use Rattle.std.specs.Prelude.{Option, Some, None, is_some, is_none, unwrap_or, Result, Ok, Err}
use Rattle.std.specs.Option.{option_map, option_and_then}
use Rattle.std.specs.List.{flat_map, list_any, find}
use Rattle.std.specs.Str.{is_utf8, chars, bytes_eq}
use Rattle.std.specs.Char.Escape.{encode_utf16}
use Rattle.serde_json.specs.Data.{Data, Items, no_items, item, Members, no_members, member}
use Rattle.serde_json.specs.Read.{read}
use Rattle.serde_json.specs.Find.{get_member, as_object, as_array, as_number, as_i64, as_str}
use Rattle.edit_base.specs.declared.bounds.TheConstants.Limits.{LINE_BYTES, LINE_SPANS}
use Rattle.edit_base.specs.declared.kinds.What.{What}
use Rattle.edit_base.specs.declared.kinds.What.TheVariants.{Tag}
use Rattle.edit_base.specs.declared.rows.Incoming.{Incoming}
use Rattle.edit_base.specs.declared.rows.NewSpan.{NewSpan}
use Rattle.edit_model.specs.State.{place as natural}
use Rattle.edit_base.specs.declared.rows.TheConstants.Incoming.{MOST}
use Rattle.edit_model.specs.Brought.{IsBrought, incoming_of}
use Rattle.trace_model.specs.declared.commands.Command.{Command}
use Rattle.trace_model.specs.declared.commands.Command.TheVariants as command
use Rattle.trace_model.specs.declared.operations.Op.{Op}
use Rattle.trace_model.specs.declared.operations.Op.TheVariants.{Replace, SetSpan, RemoveSpan, SpansOver, NextEdge}
use Rattle.trace_model.specs.declared.operations.Op.TheVariants.{Select, Deselect, Compose, Commit, Finish, Region, DeleteAround, DeletePoints, SetSelection, TextBefore, TextAfter, Selected, Begin, End}
use Rattle.trace_model.specs.declared.faults.TraceFault.{TraceFault}
use Rattle.trace_model.specs.declared.faults.TraceFault.TheVariants as fault
use Rattle.trace_model.specs.Operations.{Form, number, text, what, spans, least_place, greatest_place, is_number, is_required}
use Rattle.trace_model.specs.Operations.{Field, operation, ops}
use Rattle.trace_model.specs.Words.{greatest_id, as_what, as_span}

-- the value of a line's bytes, where `serde_json` reads one
abbrev pub json_of : List ℕ → Option Data
json_of bytes = if is_utf8 bytes then read bytes else None

-- the names of an object's members
abbrev pub keys_of : Members → List (List ℕ)
keys_of no_members = []
keys_of (member key value members) = key ∷ keys_of members

-- ---- forms

abbrev pub within : ℤ → ℤ → ℤ → Option ℤ
within least greatest z = if int_le least z && int_le z greatest then Some z else None

-- a whole number from a least to a greatest one
abbrev pub number_of : ℤ → ℤ → Data → Option ℤ
number_of least greatest value = option_and_then (within least greatest) (option_and_then as_i64 (as_number value))

-- the UTF-16 units of a text
abbrev pub utf16 : List ℕ → List ℕ
utf16 string = flat_map encode_utf16 (chars string)

-- no more units than a replacement may bring; a line has far fewer
abbrev pub as_incoming : List ℕ → Option (List ℕ)
as_incoming units = if nat_le (length units) MOST then Some units else None

-- a text: the UTF-16 units of a string
abbrev pub text_of : Data → Option (List ℕ)
text_of value = option_and_then as_incoming (option_map utf16 (as_str value))

-- what a span carries, in words
abbrev pub what_of : Data → Option What
what_of value = option_and_then as_what (as_str value)

-- the spans that the values of an array say, where each says one
abbrev pub spans_said : Items → Option (List NewSpan)
spans_said no_items = Some []
spans_said (item value items) =
    option_and_then (λ first. option_map (λ others. first ∷ others) (spans_said items)) (option_and_then as_span (as_str value))

abbrev pub as_few : List NewSpan → Option (List NewSpan)
as_few brought = if nat_le (length brought) LINE_SPANS then Some brought else None

-- an array of as many spans as a line may have, in words
abbrev pub spans_of : Data → Option (List NewSpan)
spans_of value = option_and_then as_few (option_and_then spans_said (as_array value))

-- where there is no value there are no spans
abbrev pub spans_or_none : Option Data → Option (List NewSpan)
spans_or_none None = Some []
spans_or_none (Some value) = spans_of value

-- ---- the value of a field, where it has one of its form

-- the value of a member
abbrev pub value_in : List ℕ → Members → Option Data
value_in name members = get_member name members

abbrev pub number_found : ℤ → ℤ → List ℕ → Members → Option ℤ
number_found least greatest name members = option_and_then (number_of least greatest) (value_in name members)

abbrev pub place_found : List ℕ → Members → Option ℤ
place_found name members = number_found least_place greatest_place name members

abbrev pub count_found : List ℕ → Members → Option ℤ
count_found name members = number_found (pos 0) greatest_place name members

-- an id or a flags word
abbrev pub word_found : List ℕ → Members → Option ℤ
word_found name members = number_found (pos 0) (pos greatest_id) name members

abbrev pub text_found : List ℕ → Members → Option (List ℕ)
text_found name members = option_and_then text_of (value_in name members)

abbrev pub what_found : List ℕ → Members → Option What
what_found name members = option_and_then what_of (value_in name members)

abbrev pub spans_found : List ℕ → Members → Option (List NewSpan)
spans_found name members = spans_or_none (value_in name members)

-- a field has a value of this form, or none where none has to stand
abbrev pub fits : Form → List ℕ → Members → Bool
fits (number least greatest) name members = is_some (number_found least greatest name members)
fits text name members = is_some (text_found name members)
fits what name members = is_some (what_found name members)
fits spans name members = is_some (spans_found name members)

-- ---- the first fault

-- the operation that `op` names
abbrev pub op_named : List ℕ → Option Op
op_named name = find (λ op. bytes_eq (operation op).name name) ops

abbrev pub op_in : Members → Option Op
op_in members = option_and_then op_named (option_and_then as_str (value_in (codes "op") members))

-- `op`, or one of these fields
abbrev pub is_known : List Field → List ℕ → Bool
is_known fields key = bytes_eq key (codes "op") || list_any (λ field. bytes_eq key field.name) fields

-- a member that is neither
abbrev pub has_foreign : List Field → Members → Bool
has_foreign fields members = list_any (λ key. not (is_known fields key)) (keys_of members)

-- a field that has to stand, and doesn't
abbrev pub is_missing : Members → Field → Bool
is_missing members field = is_required field.form && is_none (value_in field.name members)

-- a number field without a number of its form, and another field without a value of its form
abbrev pub lacks_number : Members → Field → Bool
lacks_number members field = is_number field.form && not (fits field.form field.name members)

abbrev pub lacks_text : Members → Field → Bool
lacks_text members field = not (is_number field.form) && not (fits field.form field.name members)

abbrev pub first_fault : List (Bool × TraceFault) → Option TraceFault
first_fault [] = None
first_fault (line ∷ lines) = if line.0 then Some line.1 else first_fault lines

-- numbers count before texts, whatever the order of the fields
abbrev pub value_lines : List Field → Members → List (Bool × TraceFault)
value_lines fields members =
    (list_any (lacks_number members) fields, fault.Number)
    ∷ (list_any (lacks_text members) fields, fault.Text)
    ∷ []

-- a field that is missing counts before all values
abbrev pub field_lines : List Field → Members → List (Bool × TraceFault)
field_lines fields members = (list_any (is_missing members) fields, fault.Missing) ∷ value_lines fields members

-- the faults of an object, of which the first that applies counts
abbrev pub fault_lines : List Field → Members → List (Bool × TraceFault)
fault_lines fields members = (has_foreign fields members, fault.Field) ∷ field_lines fields members

-- ---- the command of an object without a fault

abbrev pub place_in : List ℕ → Members → ℤ
place_in name members = unwrap_or (place_found name members) (pos 0)

abbrev pub word_in : List ℕ → Members → ℕ
word_in name members = natural (unwrap_or (word_found name members) (pos 0))

abbrev pub count_in : List ℕ → Members → ℕ
count_in name members = natural (unwrap_or (count_found name members) (pos 0))

abbrev pub text_in : List ℕ → Members → List ℕ
text_in name members = unwrap_or (text_found name members) []

abbrev pub what_in : List ℕ → Members → What
what_in name members = unwrap_or (what_found name members) (Tag 0)

abbrev pub spans_in : List ℕ → Members → List NewSpan
spans_in name members = unwrap_or (spans_found name members) []

-- the text of a command, with the spans over it
abbrev pub incoming_in : Members → Incoming
incoming_in members = incoming_of (text_in (codes "text") members) (spans_in (codes "spans") members)

abbrev pub command_in : Op → Members → Command
command_in Replace members = command.Replace (place_in (codes "start") members) (place_in (codes "end") members) (incoming_in members)
command_in SetSpan members =
    command.SetSpan (word_in (codes "id") members) (place_in (codes "start") members) (place_in (codes "end") members)
    (word_in (codes "flags") members) (what_in (codes "what") members)
command_in RemoveSpan members = command.RemoveSpan (word_in (codes "id") members)
command_in SpansOver members = command.SpansOver (place_in (codes "start") members) (place_in (codes "end") members)
command_in NextEdge members = command.NextEdge (place_in (codes "start") members) (place_in (codes "limit") members)
command_in Select members = command.Select (place_in (codes "start") members) (place_in (codes "end") members)
command_in Deselect _ = command.Deselect
command_in Compose members = command.Compose (incoming_in members) (place_in (codes "cursor") members)
command_in Commit members = command.Commit (incoming_in members) (place_in (codes "cursor") members)
command_in Finish _ = command.Finish
command_in Region members = command.Region (place_in (codes "start") members) (place_in (codes "end") members)
command_in DeleteAround members = command.DeleteAround (count_in (codes "before") members) (count_in (codes "after") members)
command_in DeletePoints members = command.DeletePoints (count_in (codes "before") members) (count_in (codes "after") members)
command_in SetSelection members = command.SetSelection (place_in (codes "start") members) (place_in (codes "end") members)
command_in TextBefore members = command.TextBefore (count_in (codes "count") members)
command_in TextAfter members = command.TextAfter (count_in (codes "count") members)
command_in Selected _ = command.Selected
command_in Begin _ = command.Begin
command_in End _ = command.End

-- ---- lines

abbrev pub unless_fault : Option TraceFault → Command → Result Command TraceFault
unless_fault None asked = Ok asked
unless_fault (Some it) asked = Err it

abbrev pub read_operation : Members → Option Op → Result Command TraceFault
read_operation object None = Err fault.Op
read_operation object (Some op) = unless_fault (first_fault (fault_lines (operation op).fields object)) (command_in op object)

abbrev pub read_object : Option Members → Result Command TraceFault
read_object None = Err fault.NotObject
read_object (Some object) = read_operation object (op_in object)

abbrev pub read_value : Option Data → Result Command TraceFault
read_value None = Err fault.Json
read_value (Some value) = read_object (as_object value)

-- the command of a line, or the first fault that applies
unfoldable pub read_command : List ℕ → Result Command TraceFault
read_command bytes = if nat_lt LINE_BYTES (length bytes) then Err fault.LineTooLong else read_value (json_of bytes)

-- a command brings what a replacement may
abbrev pub IsFitting : Command → Type 0
IsFitting (command.Replace start end incoming) = IsBrought incoming
IsFitting (command.Compose incoming cursor) = IsBrought incoming
IsFitting (command.Commit incoming cursor) = IsBrought incoming
IsFitting _ = Unit {0}
