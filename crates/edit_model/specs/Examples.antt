-- Worked examples of filtering and attaching.
use Rattle.std.specs.Prelude.{ℕ, ◌≡◌, ◌∷◌, [], true, codes}
use Rattle.edit_base.specs.declared.kinds.What.TheVariants.{Tag, Composing}
use Rattle.edit_base.specs.declared.rows.NewSpan.{NewSpan}
use Rattle.edit_model.specs.declared.filters.Filter.TheVariants.{Length, AsciiUpper, Allow, NoNewline}
use Rattle.edit_model.specs.State.{Span}
use Rattle.edit_model.specs.Replaced.{came_spans}
use Rattle.edit_model.specs.Filtered.{filtered}
use Rattle.edit_model.specs.Brought.{incoming_of}

-- a span with a tag, as it comes and as it is attached
abbrev pub tagged : ℕ → ℕ → ℕ → ℕ → NewSpan
tagged id start end flags = record { id = id; start = start; end = end; flags = flags; what = Tag 1 }

abbrev pub attached : ℕ → ℕ → ℕ → ℕ → Span
attached id start end flags = record { id = id; start = start; end = end; flags = flags; what = Tag 1 }

-- a pair that doesn't fit whole is left out; each filter sees what the one before it left; places go to as many units as
-- were kept before them, and those behind the text to its end
abbrev pub FiltersTexts : Type 0
FiltersTexts =
    (filtered (Length 3 ∷ []) (incoming_of (55357 ∷ 56832 ∷ []) []) 2 2 2 ≡ incoming_of [] [])
    × (filtered (AsciiUpper ∷ Allow (record { low = 65; high = 90 } ∷ []) ∷ []) (incoming_of (codes "a1b") []) 0 0 0 ≡ incoming_of (codes "AB") [])
    × (filtered (NoNewline ∷ []) (incoming_of (codes "a\nb") (tagged 7 0 3 17 ∷ tagged 8 1 2 33 ∷ tagged 9 2 9 34 ∷ [])) 0 0 0
    ≡ incoming_of (codes "ab") (tagged 7 0 2 17 ∷ tagged 8 1 1 33 ∷ tagged 9 1 2 34 ∷ []))

-- at the place 2 of "x\ny": one that is clipped, one of an id that came before it, one that may not be empty, and two for
-- paragraphs, the first of which ends at a boundary
abbrev pub AttachesSpans : Type 0
AttachesSpans =
    came_spans (record { units = codes "x\ny"; spans = [] }) 2 2
    (incoming_of (codes "a\n") (tagged 9 0 5 17 ∷ tagged 9 0 1 17 ∷ tagged 8 1 1 33 ∷ tagged 7 0 2 51 ∷ tagged 6 0 1 51 ∷ []))
    ≡ attached 9 2 4 17 ∷ attached 7 2 4 51 ∷ []

-- behind the spans given comes the composing region, over all units that come, unless there are none
abbrev pub AttachesRegion : Type 0
AttachesRegion =
    (came_spans (record { units = codes "xy"; spans = [] }) 1 2 (record { units = codes "abc"; spans = tagged 9 0 1 17 ∷ []; composing = true })
    ≡ attached 9 1 2 17 ∷ record { id = 2; start = 1; end = 4; flags = 289; what = Composing } ∷ [])
    × (came_spans (record { units = codes "xy"; spans = [] }) 1 2 (record { units = []; spans = []; composing = true }) ≡ [])
