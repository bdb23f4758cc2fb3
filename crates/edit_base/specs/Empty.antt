-- The replacement of nothing by nothing.
use Rattle.std.specs.Prelude.{pos, ◌≡◌, []}
use Rattle.edit_base.specs.declared.edits.Edit.{Edit}
use Rattle.edit_base.specs.declared.edits.Edit.TheVariants.{Replace, SetSpan, RemoveSpan, Select}

-- the units from 0 to 0 become none
abbrev pub IsEmptyReplacement : Edit → Type 0
IsEmptyReplacement (Replace start end text) = (start ≡ pos 0) × (end ≡ pos 0) × (text.items ≡ [])
IsEmptyReplacement (SetSpan id start end flags what) = ⊥
IsEmptyReplacement (RemoveSpan id) = ⊥
IsEmptyReplacement (Select start end) = ⊥
