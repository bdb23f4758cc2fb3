-- What a replacement brings: what holds of it, and which of the spans that come are attached.
use Rattle.std.specs.Prelude.{ℕ, ◌≤◌, ◌+◌, ◌++◌, ◌&&◌, ◌||◌, ◌==◌, Bool, false, not, List, [], ◌∷◌, length, map, min, if◌then◌else◌}
use Rattle.std.specs.List.{All}
use Rattle.edit_base.specs.declared.kinds.What.TheVariants.{Composing}
use Rattle.edit_base.specs.declared.rows.Incoming.{Incoming}
use Rattle.edit_base.specs.declared.rows.TheConstants.Incoming.{MOST}
use Rattle.edit_base.specs.declared.rows.NewSpan.{NewSpan}
use Rattle.edit_model.specs.State.{Span}
use Rattle.edit_model.specs.Flags.{kind_of, is_point_mark, is_paragraph}
use Rattle.edit_model.specs.Boundaries.{is_boundary}
use Rattle.edit_model.specs.Attached.{is_attached}
use Rattle.edit_model.specs.WellFormed.{composing_id, composing_flags}

-- ---- conditions

-- the start isn't behind the end
abbrev pub IsOrdered : NewSpan → Type 0
IsOrdered span = span.start ≤ span.end

-- what holds of everything that a replacement brings: no more units, nor spans, than it may
pub record IsBrought (incoming : Incoming) : Type 0 where
  pub units : length incoming.units ≤ MOST
  pub spans : length incoming.spans ≤ MOST
  pub ordered : All IsOrdered incoming.spans

-- ---- spans

-- units, and spans over them
abbrev pub incoming_of : List ℕ → List NewSpan → Incoming
incoming_of units brought = record { units = units; spans = brought; composing = false }

-- the composing region over n incoming units, where it comes
abbrev pub region_over : Bool → ℕ → List NewSpan
region_over composing n =
    if composing then record { id = composing_id; start = 0; end = n; flags = composing_flags; what = Composing } ∷ [] else []

-- the spans that come: those given, in their order, and the composing region last
abbrev pub coming_spans : Incoming → List NewSpan
coming_spans incoming = incoming.spans ++ region_over incoming.composing (length incoming.units)

-- a span over n incoming units as it stands in the text: clipped to them, and moved by the place where they begin
abbrev pub placed_span : ℕ → ℕ → NewSpan → Span
placed_span s n span = record {
  id = span.id;
  start = s + min span.start n;
  end = s + min span.end n;
  flags = span.flags;
  what = span.what;
}

-- it has a place in these units: it isn't empty where it may not be, and a paragraph span stands at boundaries
abbrev pub has_place : List ℕ → Span → Bool
has_place units span =
    not (is_point_mark (kind_of span.flags) && span.start == span.end)
    && not (is_paragraph (kind_of span.flags) && not (is_boundary units span.start && is_boundary units span.end))

-- it is skipped: its id is attached, or it has no place
abbrev pub is_skipped : List ℕ → List Span → Span → Bool
is_skipped units attached span = is_attached span.id attached || not (has_place units span)

-- those of some spans that are attached, one by one, behind the attached ones
abbrev pub newcomers : List ℕ → List Span → List Span → List Span
newcomers units attached [] = []
newcomers units attached (span ∷ spans) =
    if is_skipped units attached span then newcomers units attached spans
    else span ∷ newcomers units (attached ++ span ∷ []) spans

-- the spans that come and are attached at a place of these units, which hold the incoming ones already
abbrev pub brought_spans : List ℕ → List Span → ℕ → Incoming → List Span
brought_spans units attached s incoming = newcomers units attached (map (placed_span s (length incoming.units)) (coming_spans incoming))
