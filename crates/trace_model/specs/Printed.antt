-- The printed lines. In a line each space belongs to the word behind it.
use Rattle.std.specs.Prelude.{ℕ, ℤ, ◌/◌, ◌%◌, ◌+◌, ◌&&◌, ◌==◌, Bool, true, false, not, List, [], ◌∷◌, ◌++◌, length, nat_lt, nat_le, codes, decimal, if◌then◌else◌, Option, Some, None}
use Rattle.std.specs.List.{flat_map}
use Rattle.std.specs.Fmt.{signed_decimal}
use Rattle.edit_base.specs.declared.verdicts.Verdict.{Verdict}
use Rattle.edit_base.specs.declared.verdicts.Verdict.TheVariants.{Done, NoChange, Ignored, Absent, Refused}
use Rattle.edit_base.specs.declared.verdicts.Refusal.{Refusal}
use Rattle.edit_base.specs.declared.verdicts.Refusal.TheVariants.{Depth, Budget, Reserved, Slot, Order, Beyond, Below, ParagraphStart, ParagraphEnd, TooLong, SpansFull, Flags, NotInBatch, NestingFull}
use Rattle.edit_model.specs.declared.entries.LogEntry.{LogEntry}
use Rattle.edit_model.specs.declared.entries.LogEntry.TheVariants as entry
use Rattle.edit_model.specs.declared.entries.Logged.{Logged}
use Rattle.edit_model.specs.declared.events.TextEvent.{TextEvent}
use Rattle.edit_model.specs.declared.events.SpanEvent.{SpanEvent}
use Rattle.edit_model.specs.declared.events.SpanChange.{SpanChange}
use Rattle.edit_model.specs.declared.events.SpanChange.TheVariants.{Added, Moved, Removed}
use Rattle.trace_model.specs.declared.replies.Reply.{Reply}
use Rattle.trace_model.specs.declared.replies.Reply.TheVariants as reply
use Rattle.edit_base.specs.declared.kinds.What.{What}
use Rattle.edit_base.specs.declared.kinds.What.TheVariants.{Tag, Face, Margin, Float, Watch, SelStart, SelEnd, Composing}
use Rattle.trace_model.specs.declared.reports.Report.{Report}
use Rattle.edit_model.specs.State.{Span, State}
use Rattle.trace_model.specs.Report.{report_of}

-- a word behind a space
abbrev pub spaced : List ℕ → List ℕ
spaced word = 32 ∷ word

abbrev pub line_end : List ℕ
line_end = 10 ∷ []

-- ---- units

-- a hexadecimal digit, in lower case
abbrev pub hex_digit : ℕ → ℕ
hex_digit n = if nat_lt n 10 then 48 + n else 87 + n

-- `\u` and four hexadecimal digits
abbrev pub escaped : ℕ → List ℕ
escaped unit = 92 ∷ 117 ∷ hex_digit (unit / 4096) ∷ hex_digit (unit / 256 % 16) ∷ hex_digit (unit / 16 % 16) ∷ hex_digit (unit % 16) ∷ []

-- the unit stands for itself: printable ASCII but the quote and the backslash
abbrev pub is_plain : ℕ → Bool
is_plain unit = nat_le 32 unit && nat_le unit 126 && not (unit == 34) && not (unit == 92)

abbrev pub unit_text : ℕ → List ℕ
unit_text unit = if is_plain unit then unit ∷ [] else escaped unit

-- `text`, how many units there are, and the units between quotes
abbrev pub text_line : List ℕ → List ℕ
text_line units = codes "text" ++ spaced (decimal (length units)) ++ spaced (34 ∷ flat_map unit_text units ++ 34 ∷ []) ++ line_end

-- ---- verdicts

abbrev pub refusal_name : Refusal → List ℕ
refusal_name Depth = codes "depth"
refusal_name Budget = codes "budget"
refusal_name Reserved = codes "reserved"
refusal_name Slot = codes "slot"
refusal_name Order = codes "order"
refusal_name Beyond = codes "beyond"
refusal_name Below = codes "below"
refusal_name ParagraphStart = codes "paragraph-start"
refusal_name ParagraphEnd = codes "paragraph-end"
refusal_name TooLong = codes "too-long"
refusal_name SpansFull = codes "spans-full"
refusal_name Flags = codes "flags"
refusal_name NotInBatch = codes "not-in-batch"
refusal_name NestingFull = codes "nesting-full"

-- a number follows these names alone
abbrev pub has_number : Refusal → Bool
has_number Depth = false
has_number Budget = false
has_number Reserved = false
has_number Slot = false
has_number Order = true
has_number Beyond = true
has_number Below = true
has_number ParagraphStart = false
has_number ParagraphEnd = false
has_number TooLong = true
has_number SpansFull = true
has_number Flags = false
has_number NotInBatch = false
has_number NestingFull = false

abbrev pub refusal_text : Refusal → ℕ → List ℕ
refusal_text refusal number =
    spaced (refusal_name refusal) ++ (if has_number refusal then spaced (decimal number) else [])

-- a verdict, behind a space
abbrev pub verdict_text : Verdict → ℕ → List ℕ
verdict_text Done number = spaced (codes "done")
verdict_text NoChange number = spaced (codes "nochange")
verdict_text Ignored number = spaced (codes "ignored")
verdict_text Absent number = spaced (codes "absent")
verdict_text (Refused refusal) number = spaced (codes "refused") ++ refusal_text refusal number

abbrev pub logged_text : Logged → List ℕ
logged_text it = verdict_text it.verdict it.number

-- ---- lines

-- the first line of the command on a trace line
abbrev pub header_line : ℕ → List ℕ → List ℕ
header_line number op = codes ">" ++ spaced (decimal number) ++ spaced op ++ line_end

-- a callback of a replacement: its name, depth and slot, the start, and how many units went and came
abbrev pub event_line : List ℕ → ℕ → TextEvent → List ℕ
event_line name slot event =
    name ++ spaced (decimal event.depth) ++ spaced (decimal slot) ++ spaced (decimal event.start) ++ spaced (decimal event.before)
    ++ spaced (decimal event.after) ++ line_end

-- a span's place
abbrev pub place_text : ℕ → ℕ → List ℕ
place_text start end = spaced (decimal start) ++ spaced (decimal end)

-- what became of a span: of a moved one the old place comes first
abbrev pub change_name : SpanChange → List ℕ
change_name Added = codes "added"
change_name Moved = codes "moved"
change_name Removed = codes "removed"

abbrev pub old_place_text : SpanChange → SpanEvent → List ℕ
old_place_text Added event = []
old_place_text Moved event = place_text event.old_start event.old_end
old_place_text Removed event = []

-- a callback of a span: what became of it, its depth and slot, the span's id, its old place where it moved, and its place
abbrev pub span_event_line : ℕ → SpanEvent → List ℕ
span_event_line slot event =
    change_name event.change ++ spaced (decimal event.depth) ++ spaced (decimal slot) ++ spaced (decimal event.id)
    ++ old_place_text event.change event ++ place_text event.start event.end ++ line_end

abbrev pub entry_line : LogEntry → List ℕ
entry_line (entry.Replace depth start end units it) =
    codes "edit" ++ spaced (decimal depth) ++ spaced (codes "replace") ++ spaced (signed_decimal start) ++ spaced (signed_decimal end)
    ++ spaced (decimal units) ++ logged_text it ++ line_end
entry_line (entry.Set depth id start end flags it) =
    codes "edit" ++ spaced (decimal depth) ++ spaced (codes "set") ++ spaced (decimal id) ++ spaced (signed_decimal start) ++ spaced (signed_decimal end)
    ++ spaced (decimal flags) ++ logged_text it ++ line_end
entry_line (entry.Remove depth id it) =
    codes "edit" ++ spaced (decimal depth) ++ spaced (codes "remove") ++ spaced (decimal id) ++ logged_text it ++ line_end
entry_line (entry.Select depth start end it) =
    codes "edit" ++ spaced (decimal depth) ++ spaced (codes "select") ++ spaced (signed_decimal start) ++ spaced (signed_decimal end)
    ++ logged_text it ++ line_end
entry_line (entry.Deselect depth it) = codes "edit" ++ spaced (decimal depth) ++ spaced (codes "deselect") ++ logged_text it ++ line_end
entry_line (entry.Drop depth it) = codes "edit" ++ spaced (decimal depth) ++ spaced (codes "drop") ++ logged_text it ++ line_end
entry_line (entry.Mark depth start end it) =
    codes "edit" ++ spaced (decimal depth) ++ spaced (codes "mark") ++ spaced (signed_decimal start) ++ spaced (signed_decimal end)
    ++ logged_text it ++ line_end
entry_line (entry.Before slot event) = event_line (codes "before") slot event
entry_line (entry.Changed slot event) = event_line (codes "changed") slot event
entry_line (entry.After slot event) = event_line (codes "after") slot event
entry_line (entry.Span slot event) = span_event_line slot event

-- two places, -1 where there is none
abbrev pub signed_places : ℤ → ℤ → List ℕ
signed_places start end = spaced (signed_decimal start) ++ spaced (signed_decimal end)

-- a verdict, how many spans are found, a place, no text, a report, a line of the end block, or how many commands were read
abbrev pub reply_text : Reply → List ℕ
reply_text (reply.Verdict it) = codes "reply" ++ logged_text it ++ line_end
reply_text (reply.Found count) = codes "found" ++ spaced (decimal count) ++ line_end
reply_text (reply.Edge place) = codes "edge" ++ spaced (decimal place) ++ line_end
reply_text reply.Nothing = codes "none" ++ line_end
reply_text (reply.Report sel_start sel_end start end) = codes "report" ++ signed_places sel_start sel_end ++ signed_places start end ++ line_end
reply_text reply.End = codes "end" ++ line_end
reply_text (reply.Selection start end) = codes "selection" ++ signed_places start end ++ line_end
reply_text (reply.Region start end) = codes "region" ++ signed_places start end ++ line_end
reply_text (reply.Checked count) = codes "ok" ++ spaced (decimal count) ++ line_end

-- the reply that is a verdict
abbrev pub reply_line : Logged → List ℕ
reply_line it = reply_text (reply.Verdict it)

-- ---- spans

-- what a span carries, in words
abbrev pub what_text : What → List ℕ
what_text (Tag number) = codes "tag" ++ spaced (decimal number)
what_text (Face number) = codes "face" ++ spaced (decimal number)
what_text (Margin first rest) = codes "margin" ++ spaced (decimal first) ++ spaced (decimal rest)
what_text (Float margin lines) = codes "float" ++ spaced (decimal margin) ++ spaced (decimal lines)
what_text (Watch slot) = codes "watch" ++ spaced (decimal slot)
what_text SelStart = codes "sel-start"
what_text SelEnd = codes "sel-end"
what_text Composing = codes "composing"

abbrev pub span_line : Span → List ℕ
span_line span =
    codes "span" ++ spaced (decimal span.id) ++ spaced (decimal span.start) ++ spaced (decimal span.end) ++ spaced (decimal span.flags)
    ++ spaced (what_text span.what) ++ line_end

-- how many spans there are, and a line for each
abbrev pub found_lines : List Span → List ℕ
found_lines spans = reply_text (reply.Found (length spans)) ++ flat_map span_line spans

abbrev pub edge_line : ℕ → List ℕ
edge_line place = reply_text (reply.Edge place)

-- the selected units, or that there are none
abbrev pub selected_line : Option (List ℕ) → List ℕ
selected_line None = reply_text reply.Nothing
selected_line (Some units) = text_line units

-- a report, where one is made
abbrev pub report_line : Option Report → List ℕ
report_line None = []
report_line (Some it) = reply_text (reply.Report it.sel_start it.sel_end it.start it.end)

-- where the selection and the composing region stand
abbrev pub standing_lines : Report → List ℕ
standing_lines it = reply_text (reply.Selection it.sel_start it.sel_end) ++ reply_text (reply.Region it.start it.end)

-- the block behind the last command
abbrev pub end_block : State → List ℕ
end_block state =
    reply_text reply.End ++ text_line state.units ++ flat_map span_line state.spans ++ standing_lines (report_of state)
