-- Where a move takes the end of a span, and the tables that agree with the end table.
use Rattle.std.specs.Prelude.{ℕ, ◌≡◌, ◌+◌, ◌-◌, ◌≤◌, true, List, [], length, slice_index_or}
use Rattle.edit_model.specs.declared.kinds.EndKind.{EndKind}
use Rattle.edit_model.specs.declared.kinds.EndKind.TheVariants.{Mark, Point, Paragraph}
use Rattle.edit_model.specs.Boundaries.{next_boundary}
use Rattle.edit_model.specs.EndTable.{shifted, end_of, is_pulled}
use Rattle.span_flags.specs.declared.moves.Move.{Move}
use Rattle.span_flags.specs.declared.moves.Move.TheVariants.{Stay, ToStart, ToGrownEnd, Shift, Pull}
use Rattle.span_flags.specs.declared.places.PlaceClass.{PlaceClass}
use Rattle.span_flags.specs.Places.{class_of, column_of}

-- where a move takes x when [s, e) becomes n units, and this is the boundary that an end is pulled to
abbrev pub place_by : Move → ℕ → ℕ → ℕ → ℕ → ℕ → ℕ
place_by Stay x s e n boundary = x
place_by ToStart x s e n boundary = s
place_by ToGrownEnd x s e n boundary = s + n
place_by Shift x s e n boundary = shifted x s e n
place_by Pull x s e n boundary = shifted boundary s e n

-- where a move takes x when [s, e) of these units becomes n units
abbrev pub place_of_move : Move → ℕ → ℕ → ℕ → ℕ → List ℕ → ℕ
place_of_move move x s e n units = place_by move x s e n (next_boundary units e)

-- by this move every end of this kind and class goes to where the end table says, when `cut` units become n units
abbrev pub IsEndTableMove : EndKind → PlaceClass → ℕ → ℕ → Move → Type 0
IsEndTableMove kind class cut n move = (x s e : ℕ) (units : List ℕ) → s ≤ e → e - s ≡ cut → x ≤ length units
    → class_of x s e (length units) ≡ class → place_of_move move x s e n units ≡ end_of kind x s e n units

-- where this move pulls an end of this kind and class, it is a paragraph end that lies inside the range or at its end
abbrev pub PullsAlone : EndKind → PlaceClass → Move → Type 0
PullsAlone kind class move = (x s e length : ℕ) → class_of x s e length ≡ class → move ≡ Pull → (kind ≡ Paragraph) × (is_pulled x s e ≡ true)

-- ---- tables

-- the row of an end kind
abbrev pub row_of : EndKind → ℕ
row_of Mark = 0
row_of Point = 1
row_of Paragraph = 2

abbrev pub cell : List (List Move) → EndKind → PlaceClass → Move
cell rows kind class = slice_index_or (slice_index_or rows (row_of kind) []) (column_of class) Stay

-- every end goes by the move of its row and column to where the end table says
abbrev pub IsEndTable : List (List Move) → Type 0
IsEndTable rows = (kind : EndKind) (x s e n : ℕ) (units : List ℕ) → s ≤ e → x ≤ length units
    → place_of_move (cell rows kind (class_of x s e (length units))) x s e n units ≡ end_of kind x s e n units

-- no end is pulled but that of a paragraph that lies inside the range or at its end
abbrev pub PullsWhere : List (List Move) → Type 0
PullsWhere rows = (kind : EndKind) (x s e length : ℕ) → cell rows kind (class_of x s e length) ≡ Pull
    → (kind ≡ Paragraph) × (is_pulled x s e ≡ true)
