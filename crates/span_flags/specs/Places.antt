-- Where a place stands to a range that is replaced.
use Rattle.std.specs.Prelude.{ℕ, ◌==◌, nat_lt, if◌then◌else◌}
use Rattle.span_flags.specs.declared.places.PlaceClass.{PlaceClass}
use Rattle.span_flags.specs.declared.places.PlaceClass.TheVariants.{Before, AtStart, Inside, AtEnd, Behind, Point, PointAtTextEnd}

-- the place x against the range [s, e) of a text of this length
abbrev pub class_of : ℕ → ℕ → ℕ → ℕ → PlaceClass
class_of x s e length =
    if nat_lt x s then Before
    else (if nat_lt e x then Behind
    else (if s == e then (if x == length then PointAtTextEnd else Point)
    else (if x == s then AtStart
    else (if nat_lt x e then Inside else AtEnd))))

-- the column of a class in a table of moves
abbrev pub column_of : PlaceClass → ℕ
column_of Before = 0
column_of AtStart = 1
column_of Inside = 2
column_of AtEnd = 3
column_of Behind = 4
column_of Point = 5
column_of PointAtTextEnd = 6
