-- Spans that are seen as the rows change.
use Rattle.std.proofs.Common.{◌≡◌, ℕ, Bool, true, false, cond, List, [], ◌∷◌, suc, map, length, refl, ap, ◌∙◌}
use Rattle.std.specs.List.{filter}
use Rattle.std.proofs.Math.ListN.{set}
use Rattle.std.proofs.lemmas.List.{drop-map, map-append, map-set, take-map}
use Rattle.edit_model.specs.Flags.{is_composing}
use Rattle.edit_model.specs.State.{Span}
use Rattle.span_table.specs.declared.kept.KeptRow.{KeptRow}
use Rattle.span_table.specs.Table.{kept_span, seen, without_at}
use Rattle.span_table.proofs.Lists.{kept_seen}
use Rattle.row_kinds.specs.Kinds.{composing_count, is_composing_row}

-- the row at a place becomes that of a span
pub seen_changed : (gap room : ℕ) (kept : List KeptRow) (i : ℕ) (span : Span)
    → map (seen gap room) (set kept i (kept_span gap room span)) ≡ set (map (seen gap room) kept) i span
seen_changed gap room kept i span =
    map-set (seen gap room) kept i (kept_span gap room span) ∙ ap (set (map (seen gap room) kept) i) (kept_seen gap room span)

pub spans_changed : (gap room : ℕ) (kept : List KeptRow) (new_gap new_room : ℕ) (changed : List KeptRow) (i : ℕ) (span : Span)
    → new_gap ≡ gap → new_room ≡ room → changed ≡ set kept i (kept_span gap room span)
    → map (seen new_gap new_room) changed ≡ set (map (seen gap room) kept) i span
spans_changed gap room kept new_gap new_room changed i span same_gap same_room is = rw (same_gap, same_room, is) (seen_changed gap room kept i span)

-- spans that are seen of equal rows
pub spans_alike : (gap room : ℕ) (kept : List KeptRow) (other_gap other_room : ℕ) (others : List KeptRow)
    → gap ≡ other_gap → room ≡ other_room → kept ≡ others → map (seen gap room) kept ≡ map (seen other_gap other_room) others
spans_alike gap room kept other_gap other_room others same_gap same_room same = rw (same_gap, same_room, same) refl

-- the spans that are part of a composing text are as many as the rows
both_more : (b : Bool) (row : KeptRow) (rows : List KeptRow) (span : Span) (spans : List Span) → length rows ≡ length spans
    → length (cond b (row ∷ rows) rows) ≡ length (cond b (span ∷ spans) spans)
both_more true row rows span spans same = ap suc same
both_more false row rows span spans same = same

pub composing_seen : (gap room : ℕ) (kept : List KeptRow) → length (filter is_composing_row kept) ≡ composing_count (map (seen gap room) kept)
composing_seen gap room [] = refl
composing_seen gap room (row ∷ kept) = both_more (is_composing_row row) row (filter is_composing_row kept) (seen gap room row)
    (filter (λ span. is_composing span.flags) (map (seen gap room) kept)) (composing_seen gap room kept)

-- the row at a place goes
pub spans_without : (gap room : ℕ) (kept : List KeptRow) (new_gap new_room : ℕ) (left : List KeptRow) (i : ℕ)
    → new_gap ≡ gap → new_room ≡ room → left ≡ without_at i kept → map (seen new_gap new_room) left ≡ without_at i (map (seen gap room) kept)
spans_without gap room kept new_gap new_room left i same_gap same_room is = rw (same_gap, same_room, is, map-append, take-map, drop-map) refl
