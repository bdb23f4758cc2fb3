-- Lists of rows, and the spans that are seen.
use Rattle.std.proofs.Common.{◌≡◌, ℕ, ◌<◌, ◌≤◌, ◌+◌, ◌-◌, suc, ◌==◌, ltb, Bool, not, cond, Some, None, List, [], ◌∷◌, map, length, get_or}
use Rattle.std.proofs.Common.{refl, sym, subst, ap, ◌∙◌, add-one, arith}
use Rattle.std.specs.List.{All, position, position_or_len, remove}
use Rattle.std.proofs.Math.ListN.{set}
use Rattle.std.proofs.lemmas.List.{get_or-map, map-set, length-map, map-append, take-map, drop-map}
use Rattle.std.proofs.lemmas.List.Elements.{All-map}
use Rattle.edit_model.specs.State.{Span}
use Rattle.edit_model.specs.Attached.{has_id}
use Rattle.span_table.specs.declared.kept.KeptRow.{KeptRow}
use Rattle.span_table.specs.Numbers.{bound, ends_behind, opened, shut, starts_behind}
use Rattle.span_table.specs.Table.{AreNumbers, HasRoomFor, IsClearOf, closed_span, kept_span, no_span, row_place, pushed_span, seen, span_at, without_at}
use Rattle.span_table.proofs.Ends.{number_place, number_valid, carried_number, pushed_place, pushed_valid, closed_place, closed_valid}

-- ---- lists

-- functions that agree on each element
pub maps_agree : {X Y Z : Type 0} (f : X → Z) (g : Y → Z) (h : X → Y) (xs : List X)
    → All (λ x. f x ≡ g (h x)) xs → map f xs ≡ map g (map h xs)
maps_agree f g h [] each = refl
maps_agree f g h (x ∷ xs) each =
    let first = each 0 x (omega arith) in
    let rest = maps_agree f g h xs (λ k d within. each (suc k) d (omega arith)) in
    cc

-- what holds of the images holds of the elements
pub at_image : {X Y : Type 0} (P : Y → Type 0) (f : X → Y) (xs : List X) → All P (map f xs) → All (λ x. P (f x)) xs
at_image P f xs each k d within = subst P (get_or-map f xs k d (f d) within) (each k (f d) (simp length-map (omega arith)))

-- the place of the first whose image passes
pub first_image : {X Y : Type 0} (p : Y → Bool) (f : X → Y) (xs : List X)
    → position_or_len (λ x. p (f x)) xs ≡ position_or_len p (map f xs)
first_image p f [] = refl
first_image p f (x ∷ xs) = ap (λ n. cond (not (p (f x))) (1 + n) 0) (first_image p f xs)

-- functions of which one undoes the other, on each image
pub undone : {X Y : Type 0} (f : X → Y) (g : Y → X) (ys : List Y) → ((y : Y) → f (g y) ≡ y) → map f (map g ys) ≡ ys
undone f g [] each = refl
undone f g (y ∷ ys) each = let rest = undone f g ys each in let first = each y in cc

pub map_both : {X Y Z : Type 0} (f : Y → Z) (g : X → Y) (xs : List X) → map (λ x. f (g x)) xs ≡ map f (map g xs)
map_both f g xs = maps_agree (λ x. f (g x)) f g xs (λ k d within. refl)

-- ---- rows that are kept, and seen

found_at : {m n j k : ℕ} → m ≡ n → j ≡ k → cond (ltb m j) (Some m) None ≡ cond (ltb n k) (Some n) None
found_at same long = cc

pub first_seen : (gap room id : ℕ) (rows : List KeptRow)
    → position (λ row. row.id == id) rows ≡ row_place id (map (seen gap room) rows)
first_seen gap room id rows = found_at (first_image (has_id id) (seen gap room) rows) (sym (length-map rows (seen gap room)))

pub removed : {X : Type 0} (i : ℕ) (xs : List X) → remove xs i ≡ without_at i xs
removed i xs = rw add-one refl

pub without_seen : (gap room i : ℕ) (rows : List KeptRow) → map (seen gap room) (without_at i rows) ≡ without_at i (map (seen gap room) rows)
without_seen gap room i rows = rw (map-append, take-map, drop-map) refl

same_places : (span : Span) (start end : ℕ) → start ≡ span.start → end ≡ span.end
    → record { id = span.id; start = start; end = end; flags = span.flags; what = span.what } ≡ span
same_places span start end starts ends = rw (starts, ends) refl

pub kept_seen : (gap room : ℕ) (span : Span) → seen gap room (kept_span gap room span) ≡ span
kept_seen gap room span =
    same_places span _ _ (number_place gap room (starts_behind span.flags) span.start) (number_place gap room (ends_behind span.flags) span.end)

-- the row at a place becomes one that is seen as this span
pub set_seen : (gap room : ℕ) (rows : List KeptRow) (i : ℕ) (row : KeptRow) (span : Span) → seen gap room row ≡ span
    → map (seen gap room) (set rows i row) ≡ set (map (seen gap room) rows) i span
set_seen gap room rows i row span is = map-set (seen gap room) rows i row ∙ ap (set (map (seen gap room) rows) i) is

-- the row that is read at a place is seen as the span there
pub span_there : (gap room : ℕ) (rows : List KeptRow) (i : ℕ) (row : KeptRow) → i < length rows → row ≡ get_or rows i row
    → seen gap room row ≡ span_at (map (seen gap room) rows) i
span_there gap room rows i row within is = ap (seen gap room) is ∙ sym (get_or-map (seen gap room) rows i row no_span within)

pub kept_valid : (gap room : ℕ) (span : Span) → span.start < bound → span.end < bound → AreNumbers gap room (kept_span gap room span)
kept_valid gap room span starts ends = record {
  start = number_valid gap room (starts_behind span.flags) span.start starts;
  end = number_valid gap room (ends_behind span.flags) span.end ends;
}

-- the row of the same span, with another gap
pub carried_row : (old_gap old_room gap room : ℕ) (row : KeptRow) (start end : ℕ) → AreNumbers old_gap old_room row
    → start ≡ opened gap room (shut old_gap old_room row.start) → end ≡ opened gap room (shut old_gap old_room row.end)
    → record { id = row.id; flags = row.flags; start = start; end = end; what = row.what } ≡ kept_span gap room (seen old_gap old_room row)
carried_row old_gap old_room gap room row start end valid starts ends =
    let from = starts ∙ carried_number old_gap old_room gap room (starts_behind row.flags) row.start valid.start in
    let to = ends ∙ carried_number old_gap old_room gap room (ends_behind row.flags) row.end valid.end in
    rw (from, to) refl

-- rows that are kept anew
pub anew_seen : (gap room : ℕ) (spans : List Span) → map (seen gap room) (map (kept_span gap room) spans) ≡ spans
anew_seen gap room spans = undone _ _ spans (kept_seen gap room)

pub anew_valid : (old_gap old_room gap room : ℕ) (rows : List KeptRow) → All (AreNumbers old_gap old_room) rows
    → All (AreNumbers gap room) (map (kept_span gap room) (map (seen old_gap old_room) rows))
anew_valid old_gap old_room gap room rows valid =
    subst (All (AreNumbers gap room)) (map_both (kept_span gap room) (seen old_gap old_room) rows)
    (All-map (AreNumbers gap room) (λ row. kept_span gap room (seen old_gap old_room row)) rows
    (λ k d h. let at = valid k d h in kept_valid gap room _ at.start.fits at.end.fits))

-- ---- rows as the gap takes units, or lets units go

module _ (gap room n : ℕ) (within : n ≤ room) where
  pushed_row : (row : KeptRow) → AreNumbers gap room row
      → seen (gap + n) (room - n) row ≡ pushed_span gap n (seen gap room row)
  pushed_row row valid =
      let start = pushed_place gap room n (starts_behind row.flags) row.start within valid.start in
      let end = pushed_place gap room n (ends_behind row.flags) row.end within valid.end in
      cc

  pushed_numbers : (row : KeptRow) → AreNumbers gap room row → HasRoomFor n (seen gap room row) → AreNumbers (gap + n) (room - n) row
  pushed_numbers row valid fits = record {
    start = pushed_valid gap room n (starts_behind row.flags) row.start within valid.start fits.start;
    end = pushed_valid gap room n (ends_behind row.flags) row.end within valid.end fits.end;
  }

  pub pushed_spans : (rows : List KeptRow) → All (AreNumbers gap room) rows
      → map (seen (gap + n) (room - n)) rows ≡ map (pushed_span gap n) (map (seen gap room) rows)
  pushed_spans rows valid = maps_agree _ _ _ rows (λ k d h. pushed_row _ (valid k d h))

  pub pushed_all : (rows : List KeptRow) → All (AreNumbers gap room) rows → All (HasRoomFor n) (map (seen gap room) rows)
      → All (AreNumbers (gap + n) (room - n)) rows
  pushed_all rows valid fits k d h = pushed_numbers _ (valid k d h) (at_image (HasRoomFor n) (seen gap room) rows fits k d h)

module _ (s gap room : ℕ) (order : s ≤ gap) where
  closed_row : (row : KeptRow) → AreNumbers gap room row → IsClearOf s gap (seen gap room row)
      → seen s (room + (gap - s)) row ≡ closed_span s gap (seen gap room row)
  closed_row row valid clear =
      let start = closed_place s gap room (starts_behind row.flags) row.start order valid.start clear.start in
      let end = closed_place s gap room (ends_behind row.flags) row.end order valid.end clear.end in
      cc

  closed_numbers : (row : KeptRow) → AreNumbers gap room row → IsClearOf s gap (seen gap room row) → AreNumbers s (room + (gap - s)) row
  closed_numbers row valid clear = record {
    start = closed_valid s gap room (starts_behind row.flags) row.start order valid.start clear.start;
    end = closed_valid s gap room (ends_behind row.flags) row.end order valid.end clear.end;
  }

  pub closed_spans : (rows : List KeptRow) → All (AreNumbers gap room) rows → All (IsClearOf s gap) (map (seen gap room) rows)
      → map (seen s (room + (gap - s))) rows ≡ map (closed_span s gap) (map (seen gap room) rows)
  closed_spans rows valid clear =
      maps_agree _ _ _ rows (λ k d h. closed_row _ (valid k d h) (at_image (IsClearOf s gap) (seen gap room) rows clear k d h))

  pub closed_all : (rows : List KeptRow) → All (AreNumbers gap room) rows → All (IsClearOf s gap) (map (seen gap room) rows)
      → All (AreNumbers s (room + (gap - s))) rows
  closed_all rows valid clear k d h = closed_numbers _ (valid k d h) (at_image (IsClearOf s gap) (seen gap room) rows clear k d h)
