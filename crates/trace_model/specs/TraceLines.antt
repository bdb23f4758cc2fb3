-- The lines of a trace.
use Rattle.std.specs.Prelude.{ℕ, ◌&&◌, ◌||◌, ◌==◌, Bool, List, [], ◌∷◌, ◌++◌, length, drop, nat_le, if◌then◌else◌}
use Rattle.std.specs.List.{list_all, flat_map}
use Rattle.edit_base.specs.declared.bounds.TheConstants.Limits.{LINE_BYTES}

-- a line with the `\n` that ends it
abbrev pub with_newline : List ℕ → List ℕ
with_newline line = line ++ 10 ∷ []

-- lines, each with its `\n`
abbrev pub joined : List (List ℕ) → List ℕ
joined lines = flat_map with_newline lines

-- a byte in front of the first line
abbrev pub onto_first : ℕ → List (List ℕ) → List (List ℕ)
onto_first byte [] = (byte ∷ []) ∷ []
onto_first byte (line ∷ lines) = (byte ∷ line) ∷ lines

-- the bytes up to each `\n`, and those behind the last one where there are any
unfoldable pub trace_lines : List ℕ → List (List ℕ)
trace_lines [] = []
trace_lines (byte ∷ bytes) = if byte == 10 then [] ∷ trace_lines bytes else onto_first byte (trace_lines bytes)

-- a byte in front of the first line, where there is one
abbrev pub onto_ended : ℕ → List (List ℕ) → List (List ℕ)
onto_ended byte [] = []
onto_ended byte (line ∷ lines) = (byte ∷ line) ∷ lines

-- the lines whose `\n` stands in these bytes
unfoldable pub ended_lines : List ℕ → List (List ℕ)
ended_lines [] = []
ended_lines (byte ∷ bytes) = if byte == 10 then [] ∷ ended_lines bytes else onto_ended byte (ended_lines bytes)

-- the bytes behind the last `\n`, or all where there is none
unfoldable pub open_line : List ℕ → List ℕ
open_line bytes = drop (length (joined (ended_lines bytes))) bytes

-- a space, a tab or `\r`
abbrev pub is_blank_byte : ℕ → Bool
is_blank_byte byte = byte == 32 || byte == 9 || byte == 13

-- a line that is counted and skipped
abbrev pub is_blank : List ℕ → Bool
is_blank line = nat_le (length line) LINE_BYTES && list_all is_blank_byte line
