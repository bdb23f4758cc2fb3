-- Rows whose ends are kept as numbers.
use Rattle.std.specs.Prelude.{ℕ, ◌≡◌, ◌<◌, ◌+◌, ◌++◌, ◌∷◌, [], List, length, map, take, drop, slice_index, slice_index_or, Option, position}
use Rattle.std.specs.List.{range_with_len}
use Rattle.edit_base.specs.declared.kinds.What.TheVariants.{Tag}
use Rattle.edit_model.specs.State.{Span}
use Rattle.edit_model.specs.Attached.{has_id}
use Rattle.span_table.specs.declared.kept.KeptRow.{KeptRow}
use Rattle.span_table.specs.Numbers.{bound, place_of, number_at, starts_behind, ends_behind, IsNumber, IsClear, pushed, closed}

-- the rows in order of attachment, the gap's place and its length, and how many rows may come before memory is asked for
pub record Rows : Type 0 where
  pub kept : List KeptRow
  pub gap : ℕ
  pub room : ℕ
  pub spare : ℕ
  -- the slots of the rows, rising: the row at a place of the list is kept in the slot at that place
  pub slots : List ℕ
  -- the numbers by slot; those of slots without a row mean nothing
  pub starts : List ℕ
  pub ends : List ℕ
  -- how many slots may come before those without a row have to be squeezed out
  pub left : ℕ

-- the span of a row, with such a gap
abbrev pub seen : ℕ → ℕ → KeptRow → Span
seen gap room row = record {
  id = row.id;
  start = place_of gap room row.start;
  end = place_of gap room row.end;
  flags = row.flags;
  what = row.what;
}

abbrev pub spans_of : Rows → List Span
spans_of rows = map (seen rows.gap rows.room) rows.kept

-- the row of a span, with such a gap
abbrev pub kept_span : ℕ → ℕ → Span → KeptRow
kept_span gap room span = record {
  id = span.id;
  flags = span.flags;
  start = number_at gap room (starts_behind span.flags) span.start;
  end = number_at gap room (ends_behind span.flags) span.end;
  what = span.what;
}

-- the row, or the span, at a place of the list; one of zeros past its end
abbrev pub no_row : KeptRow
no_row = record { id = 0; flags = 0; start = 0; end = 0; what = Tag 0 }

abbrev pub kept_at : List KeptRow → ℕ → KeptRow
kept_at kept i = slice_index_or kept i no_row

abbrev pub no_span : Span
no_span = record { id = 0; start = 0; end = 0; flags = 0; what = Tag 0 }

abbrev pub span_at : List Span → ℕ → Span
span_at spans i = slice_index_or spans i no_span

-- the place of the first span with this id
abbrev pub row_place : ℕ → List Span → Option ℕ
row_place id spans = position (has_id id) spans

-- a list without the element at a place
abbrev pub without_at : {X : Type 0} → ℕ → List X → List X
without_at i xs = take i xs ++ drop (i + 1) xs

-- the span with other ends
abbrev pub with_ends : ℕ → ℕ → Span → Span
with_ends start end span = record span { start = start; end = end }

-- the rows where slots without one are squeezed out: each in the slot of its place
abbrev pub squeezed : Rows → Rows
squeezed rows = record rows {
  slots = range_with_len 0 (length rows.kept);
  starts = map (slice_index rows.starts) rows.slots;
  ends = map (slice_index rows.ends) rows.slots;
}

-- a row came in a slot behind all others
pub record IsAppended (row : KeptRow) (old new : Rows) : Type 0 where
  pub slots : new.slots ≡ old.slots ++ length old.starts ∷ []
  pub starts : new.starts ≡ old.starts ++ row.start ∷ []
  pub ends : new.ends ≡ old.ends ++ row.end ∷ []

-- both ends of a row are numbers, each of its side
pub record AreNumbers (gap room : ℕ) (row : KeptRow) : Type 0 where
  pub start : IsNumber gap room (starts_behind row.flags) row.start
  pub end : IsNumber gap room (ends_behind row.flags) row.end

-- ---- spans when text comes or goes at the gap

-- n units come
abbrev pub pushed_span : ℕ → ℕ → Span → Span
pushed_span gap n span = record {
  id = span.id;
  start = pushed gap n (starts_behind span.flags) span.start;
  end = pushed gap n (ends_behind span.flags) span.end;
  flags = span.flags;
  what = span.what;
}

-- both ends fit a u32 when n units come
pub record HasRoomFor (n : ℕ) (span : Span) : Type 0 where
  pub start : span.start + n < bound
  pub end : span.end + n < bound

-- the units from s up to the gap at e go
abbrev pub closed_span : ℕ → ℕ → Span → Span
closed_span s e span = record {
  id = span.id;
  start = closed s e span.start;
  end = closed s e span.end;
  flags = span.flags;
  what = span.what;
}

-- neither end is touched by that
pub record IsClearOf (s e : ℕ) (span : Span) : Type 0 where
  pub start : IsClear s e (starts_behind span.flags) span.start
  pub end : IsClear s e (ends_behind span.flags) span.end
