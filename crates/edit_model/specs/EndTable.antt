-- Where the end x of a span goes when the units [s, e) of a text become n units.
use Rattle.std.specs.Prelude.{ℕ, ◌+◌, ◌-◌, ◌*◌, ◌/◌, ◌&&◌, ◌==◌, Bool, List, length, nat_lt, nat_le, if◌then◌else◌}
use Rattle.edit_model.specs.declared.kinds.EndKind.{EndKind}
use Rattle.edit_model.specs.declared.kinds.EndKind.TheVariants.{Mark, Point, Paragraph}
use Rattle.edit_model.specs.Boundaries.{next_boundary}

-- a place behind the range, in the text that stands after
abbrev pub shifted : ℕ → ℕ → ℕ → ℕ → ℕ
shifted x s e n = x - (e - s) + n

-- to the least place behind the range with `\n` before it in the old text, else to the end
abbrev pub pulled : ℕ → ℕ → ℕ → List ℕ → ℕ
pulled s e n units = shifted (next_boundary units e) s e n

-- s = e = x
abbrev pub at_point : EndKind → ℕ → ℕ → List ℕ → ℕ
at_point Mark x n units = x
at_point Point x n units = x + n
at_point Paragraph x n units = if x == length units then x + n else x

-- s < e, x = s
abbrev pub at_start : EndKind → ℕ → ℕ
at_start Mark s = s
at_start Point s = s
at_start Paragraph s = s

-- s < e, s < x < e
abbrev pub inside : EndKind → ℕ → ℕ → ℕ → List ℕ → ℕ
inside Mark s e n units = s
inside Point s e n units = s + n
inside Paragraph s e n units = pulled s e n units

-- s < e, x = e
abbrev pub at_end : EndKind → ℕ → ℕ → ℕ → List ℕ → ℕ
at_end Mark s e n units = s + n
at_end Point s e n units = s + n
at_end Paragraph s e n units = pulled s e n units

abbrev pub end_of : EndKind → ℕ → ℕ → ℕ → ℕ → List ℕ → ℕ
end_of kind x s e n units =
    if nat_lt x s then x
    else (if nat_lt e x then shifted x s e n
    else (if s == e then at_point kind x n units
    else (if x == s then at_start kind s
    else (if nat_lt x e then inside kind s e n units
    else at_end kind s e n units))))

-- a paragraph end that lies inside the range or at its end is pulled
abbrev pub is_pulled : ℕ → ℕ → ℕ → Bool
is_pulled x s e = nat_lt s x && nat_le x e

-- an end of the selection inside the range, where units come: s < x < e, n > 0
abbrev pub is_scaled : ℕ → ℕ → ℕ → ℕ → ℕ → Bool
is_scaled id x s e n = nat_lt id 2 && nat_lt s x && nat_lt x e && nat_lt 0 n

-- as far into the units that come as it was into those that go, in proportion, rounded down
abbrev pub scaled : ℕ → ℕ → ℕ → ℕ → ℕ
scaled x s e n = s + (x - s) * n / (e - s)

-- where an end of the span with this id goes: by its kind, but for the ends of the selection inside the range
abbrev pub end_of_span : ℕ → EndKind → ℕ → ℕ → ℕ → ℕ → List ℕ → ℕ
end_of_span id kind x s e n units = if is_scaled id x s e n then scaled x s e n else end_of kind x s e n units
