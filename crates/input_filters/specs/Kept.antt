-- Filters that look at each unit alone, and how many units they keep before each place.
use Rattle.std.specs.Prelude.{ℕ, ◌≡◌, ◌≤◌, ◌+◌, Bool, true, List, length, take, filter, slice_index}
use Rattle.std.specs.List.{All}
use Rattle.edit_base.specs.declared.rows.Incoming.{Incoming}
use Rattle.edit_base.specs.declared.rows.TheConstants.Incoming.{MOST}
use Rattle.edit_base.specs.declared.rows.NewSpan.{NewSpan}
use Rattle.edit_model.specs.declared.filters.Filter.{Filter}
use Rattle.edit_model.specs.declared.filters.Filter.TheVariants.{Length, AsciiUpper, Allow, NoNewline}
use Rattle.edit_model.specs.Filtered.{is_allowed, is_no_newline}

-- whether the filter keeps a unit, whatever stands beside it; a filter that goes by places, or keeps all, keeps each
abbrev pub is_kept : Filter → ℕ → Bool
is_kept (Length greatest) unit = true
is_kept AsciiUpper unit = true
is_kept (Allow ranges) unit = is_allowed ranges unit
is_kept NoNewline unit = is_no_newline unit

-- the units that such a filter keeps
abbrev pub kept_of : Filter → List ℕ → List ℕ
kept_of it units = filter (is_kept it) units

-- how many of the units before a place pass a test
abbrev pub count_before : (ℕ → Bool) → List ℕ → ℕ → ℕ
count_before keep units at = length (filter keep (take at units))

-- the counts at each place of the units, their end counted
pub record AreCounts (keep : ℕ → Bool) (units counts : List ℕ) : Type 0 where
  pub long : length counts ≡ length units + 1
  pub each : (at : ℕ) → at ≤ length units → slice_index counts at ≡ count_before keep units at

-- both places of a span lie in a text of this length
abbrev pub LiesIn : ℕ → NewSpan → Type 0
LiesIn end span = (span.start ≤ end) × (span.end ≤ end)

-- no more units than a replacement may bring, with every span in them
pub record IsClipped (incoming : Incoming) : Type 0 where
  pub short : length incoming.units ≤ MOST
  pub inside : All (LiesIn (length incoming.units)) incoming.spans
