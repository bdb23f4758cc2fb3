-- The flags word of a span.
use Rattle.std.specs.Prelude.{ℕ, ◌/◌, ◌%◌, ◌||◌, ◌==◌, Bool, true, false, not, if◌then◌else◌, Option, Some, None, is_none}
use Rattle.edit_model.specs.declared.kinds.Kind.{Kind}
use Rattle.edit_model.specs.declared.kinds.Kind.TheVariants.{MarkMark, MarkPoint, PointMark, PointPoint, Paragraph}
use Rattle.edit_model.specs.declared.kinds.EndKind.{EndKind}
use Rattle.edit_model.specs.declared.kinds.EndKind.TheVariants as end

-- the kind that a low byte names
abbrev pub kind_named : ℕ → Option Kind
kind_named byte =
    if byte == 17 then Some MarkMark
    else (if byte == 18 then Some MarkPoint
    else (if byte == 33 then Some PointMark
    else (if byte == 34 then Some PointPoint
    else (if byte == 51 then Some Paragraph else None))))

-- one of the bits 10 to 15 is set
abbrev pub has_refused_bit : ℕ → Bool
has_refused_bit word = not (word / 1024 % 64 == 0)

-- the low byte names no kind, or a refused bit is set
abbrev pub is_bad : ℕ → Bool
is_bad word = is_none (kind_named (word % 256)) || has_refused_bit word

-- the kind of a word that isn't bad
abbrev pub or_mark_mark : Option Kind → Kind
or_mark_mark None = MarkMark
or_mark_mark (Some kind) = kind

abbrev pub kind_of : ℕ → Kind
kind_of word = or_mark_mark (kind_named (word % 256))

abbrev pub start_kind : Kind → EndKind
start_kind MarkMark = end.Mark
start_kind MarkPoint = end.Mark
start_kind PointMark = end.Point
start_kind PointPoint = end.Point
start_kind Paragraph = end.Paragraph

abbrev pub end_kind : Kind → EndKind
end_kind MarkMark = end.Mark
end_kind MarkPoint = end.Point
end_kind PointMark = end.Mark
end_kind PointPoint = end.Point
end_kind Paragraph = end.Paragraph

-- the span may not be empty
abbrev pub is_point_mark : Kind → Bool
is_point_mark MarkMark = false
is_point_mark MarkPoint = false
is_point_mark PointMark = true
is_point_mark PointPoint = false
is_point_mark Paragraph = false

abbrev pub is_paragraph : Kind → Bool
is_paragraph MarkMark = false
is_paragraph MarkPoint = false
is_paragraph PointMark = false
is_paragraph PointPoint = false
is_paragraph Paragraph = true

-- the span is part of a composing text
abbrev pub is_composing : ℕ → Bool
is_composing word = word / 256 % 2 == 1

-- bits 16 to 23
abbrev pub priority_of : ℕ → ℕ
priority_of word = word / 65536 % 256
