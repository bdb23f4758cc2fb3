-- The incoming spans that a replacement attaches.
use Rattle.std.specs.Prelude.{ℕ, ◌≤◌, ◌+◌, List, length, map}
use Rattle.edit_base.specs.declared.rows.NewSpan.{NewSpan}
use Rattle.edit_base.specs.declared.rows.SpanRow.{SpanRow}
use Rattle.edit_model.specs.State.{Span}
use Rattle.edit_model.specs.Replaced.{spliced, stayed_spans}
use Rattle.edit_model.specs.Brought.{placed_span, newcomers}
use Rattle.text_cut.specs.declared.cut.Cut.{Cut}
use Rattle.text_cut.specs.Halves.{joined}

-- the text that stands then
abbrev pub text_then : Cut → List ℕ
text_then cut = spliced (joined cut.text) cut.start cut.end cut.brought.now

-- an incoming span in that text
abbrev pub placed : Cut → NewSpan → Span
placed cut span = placed_span cut.start (length cut.brought.now) span

-- those of some incoming spans that are attached behind others
abbrev pub arrivals : Cut → List Span → List NewSpan → List Span
arrivals cut attached spans = newcomers (text_then cut) attached (map (placed cut) spans)

-- the spans that aren't emptied, where they go
abbrev pub stayed : Cut → List Span → List Span
stayed cut spans = stayed_spans (record { units = joined cut.text; spans = spans }) cut.start cut.end cut.grown

-- both places lie among the units that come
pub record IsAmong (cut : Cut) (row : SpanRow) : Type 0 where
  pub start_least : cut.start ≤ row.start
  pub start_greatest : row.start ≤ cut.start + cut.grown
  pub end_least : cut.start ≤ row.end
  pub end_greatest : row.end ≤ cut.start + cut.grown
