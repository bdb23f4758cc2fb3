-- The table of operations, as the program holds it.
use Rattle.std.specs.Prelude.{ℕ, ◌&&◌, ◌||◌, List, Bool, not, map, is_none, codes}
use Rattle.std.specs.List.{list_any}
use Rattle.std.specs.Str.{bytes_eq}
use Rattle.serde_json.specs.Data.{Members}
use Rattle.trace_model.specs.Operations.{is_required, Field, Operation, operation, ops}
use Rattle.trace_model.specs.Reading.{value_in}
use Rattle.trace_words.specs.declared.table.OpField.{OpField}

-- a field's name, and whether the field has to stand
pub record NamedField : Type 0 where
  pub name : List ℕ
  pub required : Bool

abbrev pub named_field : Field → NamedField
named_field it = record { name = it.name; required = is_required it.form }

abbrev pub shown_field : OpField → NamedField
shown_field it = record { name = it.name.now; required = it.required }

-- the operations, each with its name and its fields
abbrev pub table : List Operation
table = map operation ops

-- a key that is neither `op` nor one of these fields
abbrev pub is_foreign : List OpField → List ℕ → Bool
is_foreign fields key = not (bytes_eq key (codes "op") || list_any (λ field. bytes_eq key field.name.now) fields)

-- a field that has to stand, and doesn't
abbrev pub is_absent : Members → NamedField → Bool
is_absent members field = field.required && is_none (value_in field.name members)
