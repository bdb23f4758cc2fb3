-- The work of an edit, in steps: a unit moved or written, or a row read.
use Rattle.std.specs.Prelude.{ℕ, ℤ, ◌+◌, ◌*◌, length}
use Rattle.std.specs.Int.{abs_diff}
use Rattle.edit_base.specs.declared.rows.Incoming.{Incoming}
use Rattle.edit_model.specs.State.{place}
use Rattle.edit_model.specs.Brought.{coming_spans}

-- the steps of an insertion for which no row is read, with the gap at a place
abbrev pub inserted_in : ℕ → ℤ → Incoming → ℕ
inserted_in gap end incoming = abs_diff gap (place end) + length incoming.units

-- the most steps of a replacement within both spares, with the gap at a place and so many spans attached
abbrev pub replaced_within : ℕ → ℤ → Incoming → ℕ → ℕ
replaced_within gap end incoming attached = inserted_in gap end incoming + 8 * (attached + length (coming_spans incoming))
