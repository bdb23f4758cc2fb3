-- What an edit tells of the rows that stood, by what it made of their spans.
use Rattle.std.proofs.Common.{◌≡◌, ℕ, ◌<◌, ◌≤◌, ◌++◌, Some, None, List, [], ◌∷◌, map, length, refl, sym, ap, ◌∙◌, eq-eqb}
use Rattle.std.proofs.Math.ListN.{set}
use Rattle.std.specs.List.{filter}
use Rattle.edit_model.specs.State.{Span}
use Rattle.edit_model.specs.Changed.{has_moved, shifts_by}
use Rattle.span_table.specs.Table.{span_at, spans_of}
use Rattle.moved_rows.specs.Moves.{ArePlaced, IsBegun, Moves, moved_of}
use Rattle.moved_rows.proofs.Shifts.{moved_all, moved_none, moved_same, moved_set, placed}

-- spans that stay where they are haven't moved
unmoved : (spans : List Span) → filter has_moved (shifts_by (λ span. span) spans) ≡ []
unmoved [] = refl
unmoved (span ∷ spans) = rw (eq-eqb span.start span.start refl, eq-eqb span.end span.end refl) (unmoved spans)

themselves : (spans : List Span) → map (λ span. span) spans ≡ spans
themselves [] = refl
themselves (span ∷ spans) = ap (λ rest. span ∷ rest) (themselves spans)

-- one that moved no row tells of nothing
pub unmoved_tells : (moves : Moves) (added : List Span) → moves.told ≡ None → spans_of moves.rows ≡ moves.before ++ added → moved_of moves ≡ []
unmoved_tells moves added told is =
    moved_all moves (λ span. span) added told (is ∙ ap (λ spans. spans ++ added) (sym (themselves moves.before))) ∙ unmoved moves.before

-- nor does one that began
pub begun_tells : (moves : Moves) → IsBegun moves → moved_of moves ≡ []
begun_tells moves begun = moved_none moves begun

pub still_tells : (old new : Moves) → new.before ≡ old.before → new.told ≡ old.told → spans_of new.rows ≡ spans_of old.rows → moved_of new ≡ moved_of old
still_tells old new before told spans = moved_same old new before told spans

-- one that moved all rows tells of those whose ends differ
pub moved_tells : (moves : Moves) (move : Span → Span) (added : List Span) → moves.told ≡ None
    → spans_of moves.rows ≡ map move moves.before ++ added → moved_of moves ≡ filter has_moved (shifts_by move moves.before)
moved_tells moves move added told is = moved_all moves move added told is

-- one that set a row tells of it alone
pub set_tells : (moves : Moves) (at : ℕ) (span : Span) → at < length moves.before → moves.told ≡ Some at
    → spans_of moves.rows ≡ set moves.before at span → moved_of moves ≡ record { from = span_at moves.before at; to = span } ∷ []
set_tells moves at span within told is = moved_set moves at span within told is

-- each row that is told of stands at its place
pub all_placed : (moves : Moves) → length moves.before ≤ length moves.rows.kept → ArePlaced (spans_of moves.rows) moves
all_placed moves few = placed moves few
