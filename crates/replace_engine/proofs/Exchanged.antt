-- What the replacement that is asked for makes of the spans is what it makes of the state.
use Rattle.std.proofs.Common.{◌≡◌, ℕ, ◌≤◌, ◌++◌, List, map, length, refl, ap, length-append, arith}
use Rattle.std.proofs.lemmas.List.{length-map}
use Rattle.edit_base.specs.declared.bounds.TheConstants.Limits.{SPANS}
use Rattle.edit_base.specs.declared.rows.Incoming.{Incoming}
use Rattle.edit_model.specs.State.{Span, State}
use Rattle.edit_model.specs.Brought.{coming_spans, placed_span}
use Rattle.edit_model.specs.Replaced.{spliced, replaced, came_spans}
use Rattle.edit_model.proofs.Newcomers.{length-newcomers}
use Rattle.text_cut.specs.Coming.{all_coming}
use Rattle.text_cut.specs.Halves.{joined}
use Rattle.replace_engine.specs.declared.exchanging.Exchange.{Exchange}
use Rattle.replace_engine.specs.Exchange.{comes, stays}

module _ (state : State) (s e : ℕ) (incoming : Incoming) (asked : Exchange) (spans : List Span)
    (now : record { units = joined asked.text; spans = spans } ≡ state) (brings : asked.brought.now ≡ incoming.units)
    (starts : asked.start ≡ s) (ends : asked.end ≡ e) (coming : all_coming asked.coming ≡ coming_spans incoming) where
  -- what comes
  pub asked_comes : comes asked spans ≡ came_spans state s e incoming
  asked_comes = rw (← now, brings, starts, ends, coming) refl

  -- what stands then
  pub asked_stands : stays asked spans ++ comes asked spans ≡ (replaced state s e incoming).spans
  asked_stands = rw (← now, brings, starts, ends, coming) refl

  -- no more come than are brought, nor than may stand
  pub few_come : length (replaced state s e incoming).spans ≤ SPANS
      → (length (comes asked spans) ≤ length (all_coming asked.coming)) × (length (comes asked spans) ≤ SPANS)
  few_come few = (
    omega (
      arith,
      length-newcomers (spliced (joined asked.text) asked.start asked.end asked.brought.now) (stays asked spans)
          (map (placed_span asked.start (length asked.brought.now)) (all_coming asked.coming)),
      length-map (all_coming asked.coming) (placed_span asked.start (length asked.brought.now)),
    ),
    omega (arith, few, ap length asked_stands, length-append (stays asked spans) (comes asked spans)),
  )
