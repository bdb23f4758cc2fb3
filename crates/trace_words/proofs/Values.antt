-- A field that has a value of its form isn't missing.
use Rattle.std.proofs.Common.{◌≡◌, Bool, true, false, not, ◌||◌, ◌&&◌, ℕ, List, [], ◌∷◌, Option, Some, None, Ok, refl}
use Rattle.std.specs.Prelude.{is_some, is_none}
use Rattle.std.specs.Option.{option_and_then}
use Rattle.std.specs.List.{list_any}
use Rattle.serde_json.specs.Data.{Data, Members}
use Rattle.trace_model.specs.declared.commands.Command.{Command}
use Rattle.trace_model.specs.declared.faults.TraceFault.TheVariants as fault
use Rattle.trace_model.specs.declared.operations.Op.{Op}
use Rattle.trace_model.specs.Operations.{Form, number, text, what, spans, is_number, is_required, Field, operation}
use Rattle.trace_model.specs.Reading.{number_of, text_of, what_of, value_in, fits, is_missing, lacks_number, lacks_text}
use Rattle.trace_model.specs.Reading.{first_fault, value_lines, field_lines, unless_fault, command_in}

-- a value of some form stands
stands : {X : Type 0} (form : Data → Option X) (value : Option Data) → not (is_some (option_and_then form value)) ≡ false → is_none value ≡ false
stands form None is = is
stands form (Some value) is = refl

-- a field stands, or need not, where it lacks neither a number nor a text
stands_if_fit : (form : Form) (name : List ℕ) (object : Members) → (is_number form && not (fits form name object)) ≡ false
    → (not (is_number form) && not (fits form name object)) ≡ false → (is_required form && is_none (value_in name object)) ≡ false
stands_if_fit (number least greatest) name object numbers texts = stands (number_of least greatest) (value_in name object) numbers
stands_if_fit text name object numbers texts = stands text_of (value_in name object) texts
stands_if_fit what name object numbers texts = stands what_of (value_in name object) texts
stands_if_fit spans name object numbers texts = refl

neither : (a b : Bool) → (a || b) ≡ false → (a ≡ false) × (b ≡ false)
neither true b is = absurd (cc)
neither false b is = (refl, is)

-- no field is missing where none lacks its value
none_missing : (object : Members) (fields : List Field) → list_any (lacks_number object) fields ≡ false → list_any (lacks_text object) fields ≡ false
    → list_any (is_missing object) fields ≡ false
none_missing object [] numbers texts = refl
none_missing object (field ∷ fields) numbers texts =
    let first = neither (lacks_number object field) (list_any (lacks_number object) fields) numbers in
    let other = neither (lacks_text object field) (list_any (lacks_text object) fields) texts in
    rw (stands_if_fit field.form field.name object first.0 other.0) (none_missing object fields first.1 other.1)

-- what was read has no fault
no_fault : (numbers texts : Bool) (asked wanted : Command)
    → unless_fault (first_fault ((numbers, fault.Number) ∷ (texts, fault.Text) ∷ [])) asked ≡ Ok wanted → (numbers ≡ false) × (texts ≡ false)
no_fault true texts asked wanted is = absurd (cc)
no_fault false true asked wanted is = absurd (cc)
no_fault false false asked wanted is = (refl, refl)

-- a command of values that all have their form is one of fields that all stand
pub values_stand : (op : Op) (object : Members) (wanted : Command)
    → unless_fault (first_fault (value_lines (operation op).fields object)) (command_in op object) ≡ Ok wanted
    → unless_fault (first_fault (field_lines (operation op).fields object)) (command_in op object) ≡ Ok wanted
values_stand op object wanted is =
    let fields = (operation op).fields in
    let fit = no_fault (list_any (lacks_number object) fields) (list_any (lacks_text object) fields) (command_in op object) wanted is in
    rw (none_missing object fields fit.0 fit.1) is
