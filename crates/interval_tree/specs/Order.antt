-- The order of the rows of an answer.
use Rattle.std.specs.Prelude.{ℕ, ◌+◌, ◌-◌, ◌*◌, ◌%◌}
use Rattle.edit_base.specs.declared.rows.SpanRow.{SpanRow}
use Rattle.edit_model.specs.Flags.{priority_of}

-- rows of a higher priority come first, and those of one priority in their order, which fits 32 bits
abbrev pub rank_of : SpanRow → ℕ
rank_of row = (255 - priority_of row.flags) * 4294967296 + row.order % 4294967296
