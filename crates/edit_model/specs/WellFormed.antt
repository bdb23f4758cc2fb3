-- The states that a text with spans can have.
use Rattle.std.specs.Prelude.{ℕ, ◌≡◌, ◌≢◌, ◌≤◌, ◌<◌, Bool, true, false, List, [], ◌∷◌, length}
use Rattle.std.specs.List.{AllByRecursion}
use Rattle.edit_base.specs.declared.kinds.What.{What}
use Rattle.edit_base.specs.declared.kinds.What.TheVariants.{Tag, Face, Margin, Float, Watch, SelStart, SelEnd, Composing}
use Rattle.edit_base.specs.declared.bounds.TheConstants.Limits.{TEXT, SPANS}
use Rattle.edit_model.specs.State.{Span, State}
use Rattle.edit_model.specs.Flags.{is_bad, kind_of, is_point_mark, is_paragraph}
use Rattle.edit_model.specs.Boundaries.{is_boundary}
use Rattle.edit_model.specs.Attached.{is_attached}

-- a what that is kept for the selection or the composing region
abbrev pub is_kept_what : What → Bool
is_kept_what (Tag number) = false
is_kept_what (Face number) = false
is_kept_what (Margin first rest) = false
is_kept_what (Float margin lines) = false
is_kept_what (Watch slot) = false
is_kept_what SelStart = true
is_kept_what SelEnd = true
is_kept_what Composing = true

-- the id and the flags word of the composing region
abbrev pub composing_id : ℕ
composing_id = 2

abbrev pub composing_flags : ℕ
composing_flags = 289

-- the selection's ends and the composing region carry their own flags and whats, and no other span does
abbrev pub IsKeptRight : Span → Type 0
IsKeptRight span =
    (span.id ≡ 0 → (span.flags ≡ 546) × (span.what ≡ SelStart) × (span.start ≡ span.end))
    × (span.id ≡ 1 → (span.flags ≡ 34) × (span.what ≡ SelEnd) × (span.start ≡ span.end))
    × (span.id ≡ composing_id → (span.flags ≡ composing_flags) × (span.what ≡ Composing))
    × (2 < span.id → is_kept_what span.what ≡ false)

-- a span over these units
pub record IsSpanOver (units : List ℕ) (span : Span) : Type 0 where
  pub flags : is_bad span.flags ≡ false
  pub ordered : span.start ≤ span.end
  pub within : span.end ≤ length units
  pub filled : is_point_mark (kind_of span.flags) ≡ true → span.start < span.end
  pub starts : is_paragraph (kind_of span.flags) ≡ true → is_boundary units span.start ≡ true
  pub ends : is_paragraph (kind_of span.flags) ≡ true → is_boundary units span.end ≡ true
  pub kept : IsKeptRight span

-- no two spans have one id
abbrev pub HasDistinctIds : List Span → Type 0
HasDistinctIds [] = Unit {0}
HasDistinctIds (span ∷ spans) = (is_attached span.id spans ≡ false) × HasDistinctIds spans

-- two spans don't watch for one slot
abbrev pub HasOtherSeat : What → What → Type 0
HasOtherSeat (Watch slot) (Watch other) = slot ≢ other
HasOtherSeat what other = Unit {0}

abbrev pub HasDistinctSeats : List Span → Type 0
HasDistinctSeats [] = Unit {0}
HasDistinctSeats (span ∷ spans) = AllByRecursion (λ other. HasOtherSeat span.what other.what) spans × HasDistinctSeats spans

-- all that holds of a state without knowing how many slots there are
pub record IsWellFormed (state : State) : Type 0 where
  pub spans : AllByRecursion (IsSpanOver state.units) state.spans
  pub distinct : HasDistinctIds state.spans
  pub apart : HasDistinctSeats state.spans
  pub few : length state.spans ≤ SPANS
  pub short : length state.units ≤ TEXT
  pub selection : is_attached 0 state.spans ≡ is_attached 1 state.spans

-- the slot of a watch span is below the number of slots
abbrev pub HasSlot : ℕ → What → Type 0
HasSlot slots (Tag number) = Unit {0}
HasSlot slots (Face number) = Unit {0}
HasSlot slots (Margin first rest) = Unit {0}
HasSlot slots (Float margin lines) = Unit {0}
HasSlot slots (Watch slot) = slot < slots
HasSlot slots SelStart = Unit {0}
HasSlot slots SelEnd = Unit {0}
HasSlot slots Composing = Unit {0}

-- every watch span has a slot
abbrev pub IsSeated : ℕ → List Span → Type 0
IsSeated slots spans = AllByRecursion (λ span. HasSlot slots span.what) spans
