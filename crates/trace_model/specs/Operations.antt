-- The operations of a trace: each one row, with its fields and their forms.
use Rattle.std.specs.Prelude.{ℕ, ℤ, pos, negsuc, List, [], ◌∷◌, Bool, true, false, codes}
use Rattle.trace_model.specs.declared.operations.Op.{Op}
use Rattle.trace_model.specs.declared.operations.Op.TheVariants.{Replace, SetSpan, RemoveSpan, SpansOver, NextEdge}
use Rattle.trace_model.specs.declared.operations.Op.TheVariants.{Select, Deselect, Compose, Commit, Finish, Region, DeleteAround, DeletePoints, SetSelection, TextBefore, TextAfter, Selected, Begin, End}
use Rattle.trace_model.specs.declared.commands.Command.{Command}
use Rattle.trace_model.specs.declared.commands.Command.TheVariants as command
use Rattle.trace_model.specs.Words.{greatest_id}

-- what a field holds: a whole number from a least to a greatest one, a string, a string that says what a span carries, or
-- an array of strings that each say a span
pub data Form : Type 0 where
  number : ℤ → ℤ → Form
  text : Form
  what : Form
  spans : Form

-- the least and the greatest place
abbrev pub least_place : ℤ
least_place = negsuc 2147483647

abbrev pub greatest_place : ℤ
greatest_place = pos 2147483647

-- a place: 32 bits with sign
abbrev pub place : Form
place = number least_place greatest_place

-- a count: as a place, without sign
abbrev pub count : Form
count = number (pos 0) greatest_place

-- an id, and a flags word: 32 bits without sign
abbrev pub id : Form
id = number (pos 0) (pos greatest_id)

abbrev pub word : Form
word = number (pos 0) (pos greatest_id)

-- the field holds a number
abbrev pub is_number : Form → Bool
is_number (number least greatest) = true
is_number text = false
is_number what = false
is_number spans = false

-- the field has to stand
abbrev pub is_required : Form → Bool
is_required (number least greatest) = true
is_required text = true
is_required what = true
is_required spans = false

pub record Field : Type 0 where
  pub name : List ℕ
  pub form : Form

pub record Operation : Type 0 where
  pub name : List ℕ
  pub fields : List Field

abbrev pub field : List ℕ → Form → Field
field name form = record { name = name; form = form }

abbrev pub row : List ℕ → List Field → Operation
row name fields = record { name = name; fields = fields }

-- ---- the table

-- what an operation is called, and its fields
abbrev pub operation : Op → Operation
operation Replace =
    row (codes "replace") (field (codes "start") place ∷ field (codes "end") place ∷ field (codes "text") text ∷ field (codes "spans") spans ∷ [])
operation SetSpan =
    row (codes "set_span")
    (field (codes "id") id ∷ field (codes "start") place ∷ field (codes "end") place ∷ field (codes "flags") word ∷ field (codes "what") what ∷ [])
operation RemoveSpan = row (codes "remove_span") (field (codes "id") id ∷ [])
operation SpansOver = row (codes "spans_over") (field (codes "start") place ∷ field (codes "end") place ∷ [])
operation NextEdge = row (codes "next_edge") (field (codes "start") place ∷ field (codes "limit") place ∷ [])
operation Select = row (codes "select") (field (codes "start") place ∷ field (codes "end") place ∷ [])
operation Deselect = row (codes "deselect") []
operation Compose = row (codes "compose") (field (codes "text") text ∷ field (codes "cursor") place ∷ field (codes "spans") spans ∷ [])
operation Commit = row (codes "commit") (field (codes "text") text ∷ field (codes "cursor") place ∷ field (codes "spans") spans ∷ [])
operation Finish = row (codes "finish") []
operation Region = row (codes "region") (field (codes "start") place ∷ field (codes "end") place ∷ [])
operation DeleteAround = row (codes "delete_around") (field (codes "before") count ∷ field (codes "after") count ∷ [])
operation DeletePoints = row (codes "delete_points") (field (codes "before") count ∷ field (codes "after") count ∷ [])
operation SetSelection = row (codes "set_selection") (field (codes "start") place ∷ field (codes "end") place ∷ [])
operation TextBefore = row (codes "text_before") (field (codes "count") count ∷ [])
operation TextAfter = row (codes "text_after") (field (codes "count") count ∷ [])
operation Selected = row (codes "selected") []
operation Begin = row (codes "begin") []
operation End = row (codes "end") []

-- every operation, in the order of the table
abbrev pub ops : List Op
ops =
    Replace ∷ SetSpan ∷ RemoveSpan ∷ SpansOver ∷ NextEdge
    ∷ Select ∷ Deselect ∷ Compose ∷ Commit ∷ Finish ∷ Region ∷ DeleteAround ∷ DeletePoints ∷ SetSelection
    ∷ TextBefore ∷ TextAfter ∷ Selected ∷ Begin ∷ End ∷ []

-- the operation of a command
abbrev pub op_of : Command → Op
op_of (command.Replace start end incoming) = Replace
op_of (command.SetSpan span start end flags it) = SetSpan
op_of (command.RemoveSpan span) = RemoveSpan
op_of (command.SpansOver start end) = SpansOver
op_of (command.NextEdge start limit) = NextEdge
op_of (command.Select start end) = Select
op_of command.Deselect = Deselect
op_of (command.Compose incoming cursor) = Compose
op_of (command.Commit incoming cursor) = Commit
op_of command.Finish = Finish
op_of (command.Region start end) = Region
op_of (command.DeleteAround before after) = DeleteAround
op_of (command.DeletePoints before after) = DeletePoints
op_of (command.SetSelection start end) = SetSelection
op_of (command.TextBefore number_of_units) = TextBefore
op_of (command.TextAfter number_of_units) = TextAfter
op_of command.Selected = Selected
op_of command.Begin = Begin
op_of command.End = End
