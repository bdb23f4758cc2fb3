-- Worked examples of lines that are read, and of lines that are printed.
use Rattle.std.specs.Prelude.{◌≡◌, ◌∷◌, [], pos, negsuc, codes, Ok, Err}
use Rattle.edit_base.specs.declared.kinds.What.TheVariants.{Tag}
use Rattle.edit_base.specs.declared.verdicts.Verdict.TheVariants.{Refused}
use Rattle.edit_base.specs.declared.verdicts.Refusal.TheVariants.{Below}
use Rattle.edit_model.specs.declared.entries.LogEntry.TheVariants as entry
use Rattle.edit_model.specs.declared.events.SpanChange.TheVariants.{Added, Moved, Removed}
use Rattle.edit_model.specs.Brought.{incoming_of}
use Rattle.edit_model.specs.Examples.{tagged}
use Rattle.trace_model.specs.declared.commands.Command.TheVariants as command
use Rattle.trace_model.specs.declared.faults.TraceFault.TheVariants as fault
use Rattle.trace_model.specs.Printed.{entry_line, text_line}
use Rattle.trace_model.specs.Reading.{read_command}

-- blanks, the order of members and escapes don't matter; -0 is no place, and half of a surrogate pair is no text; a tag has
-- a number, without a zero in front
abbrev pub ReadsLines : Type 0
ReadsLines =
    (read_command (codes "{ \"text\": \"\\u0068i\", \"end\": 5, \"start\": -2, \"op\": \"replace\" }")
    ≡ Ok (command.Replace (negsuc 1) (pos 5) (incoming_of (codes "hi") [])))
    × (read_command (codes "{\"op\":\"replace\",\"start\":-0,\"end\":5,\"text\":\"hi\"}") ≡ Err fault.Number)
    × (read_command (codes "{\"op\":\"replace\",\"start\":0,\"end\":5,\"text\":\"\\ud83d\"}") ≡ Err fault.Json)
    × (read_command (codes "{\"op\":\"set_span\",\"id\":5,\"start\":0,\"end\":2,\"flags\":33,\"what\":\"tag 7\"}")
    ≡ Ok (command.SetSpan 5 (pos 0) (pos 2) 33 (Tag 7)))
    × (read_command (codes "{\"op\":\"set_span\",\"id\":5,\"start\":0,\"end\":2,\"flags\":33,\"what\":\"tag 07\"}") ≡ Err fault.Text)
    × (read_command (codes "{\"op\":\"set_span\",\"id\":5,\"start\":0,\"end\":2,\"flags\":33,\"what\":\"tag\"}") ≡ Err fault.Text)

-- a list of spans, left out or of words that say one each, its start not behind its end
abbrev pub ReadsSpans : Type 0
ReadsSpans =
    (read_command (codes "{\"op\":\"replace\",\"start\":0,\"end\":0,\"text\":\"hi\",\"spans\":[\"7 0 5 17 tag 1\"]}")
    ≡ Ok (command.Replace (pos 0) (pos 0) (incoming_of (codes "hi") (tagged 7 0 5 17 ∷ []))))
    × (read_command (codes "{\"op\":\"replace\",\"start\":0,\"end\":0,\"text\":\"hi\",\"spans\":[\"7 1 0 17 tag 1\"]}") ≡ Err fault.Text)

-- a connection's text and its cursor; a count has no sign and stays below 2^31; an operation without fields has no other member
abbrev pub ReadsConnections : Type 0
ReadsConnections =
    (read_command (codes "{\"op\":\"compose\",\"text\":\"hi\",\"cursor\":-1}") ≡ Ok (command.Compose (incoming_of (codes "hi") []) (negsuc 0)))
    × (read_command (codes "{\"op\":\"commit\",\"cursor\":1,\"text\":\"\"}") ≡ Ok (command.Commit (incoming_of [] []) (pos 1)))
    × (read_command (codes "{\"op\":\"delete_points\",\"before\":2147483647,\"after\":0}") ≡ Ok (command.DeletePoints 2147483647 0))
    × (read_command (codes "{\"op\":\"delete_around\",\"before\":-1,\"after\":0}") ≡ Err fault.Number)
    × (read_command (codes "{\"op\":\"text_before\",\"count\":2147483648}") ≡ Err fault.Number)
    × (read_command (codes "{\"op\":\"end\"}") ≡ Ok command.End)
    × (read_command (codes "{\"op\":\"finish\",\"x\":1}") ≡ Err fault.Field)

-- a refused edit; then a letter, the quote, the backslash, a line's end, half of a surrogate pair, the last plain unit
-- and the one behind it; then a span that came, one that went, and one that moved
abbrev pub PrintsLines : Type 0
PrintsLines =
    (entry_line (entry.Replace 0 (negsuc 0) (pos 0) 0 (record { verdict = Refused Below; number = 3 }))
    ≡ codes "edit 0 replace -1 0 0 refused below 3\n")
    × (text_line (97 ∷ 34 ∷ 92 ∷ 10 ∷ 55357 ∷ 126 ∷ 127 ∷ [])
    ≡ codes "text 7 \"a\\u0022\\u005c\\u000a\\ud83d~\\u007f\"\n")
    × (entry_line (entry.Span 0 (record { depth = 1; id = 20; change = Added; old_start = 0; old_end = 2; start = 0; end = 2 }))
    ≡ codes "added 1 0 20 0 2\n")
    × (entry_line (entry.Span 0 (record { depth = 0; id = 5; change = Removed; old_start = 1; old_end = 4; start = 1; end = 4 }))
    ≡ codes "removed 0 0 5 1 4\n")
    × (entry_line (entry.Span 1 (record { depth = 0; id = 10; change = Moved; old_start = 0; old_end = 0; start = 0; end = 1 }))
    ≡ codes "moved 0 1 10 0 0 0 1\n")
