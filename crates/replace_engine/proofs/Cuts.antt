-- What a cut makes of spans is what the replacement that is asked for makes of them.
use Rattle.std.proofs.Common.{◌≡◌, ℕ, List, map, length, refl}
use Rattle.std.specs.List.{filter}
use Rattle.edit_model.specs.State.{Span}
use Rattle.edit_model.specs.Changed.{has_moved, shifts_by}
use Rattle.edit_model.specs.Brought.{newcomers, placed_span}
use Rattle.edit_model.specs.Replaced.{kept_spans, moved_span, spliced}
use Rattle.text_cut.specs.declared.cut.Cut.{Cut}
use Rattle.text_cut.specs.Coming.{all_coming}
use Rattle.text_cut.specs.Halves.{joined}
use Rattle.replace_engine.specs.declared.exchanging.Exchange.{Exchange}
use Rattle.replace_engine.specs.Arrivals.{arrivals}
use Rattle.replace_engine.specs.Exchange.{comes, stays}

-- what comes is a function of the units and places
same_comes : (asked : Exchange) (spans attached : List Span) (units brought : List ℕ) (s e : ℕ) → units ≡ joined asked.text → brought ≡ asked.brought.now
    → s ≡ asked.start → e ≡ asked.end → attached ≡ stays asked spans
    → newcomers (spliced units s e brought) attached (map (placed_span s (length brought)) (all_coming asked.coming)) ≡ comes asked spans
same_comes asked spans attached units brought s e text brings start end is = rw (is, text, brings, start, end) refl

module _ (asked : Exchange) (spans : List Span) (cut : Cut) (text : joined cut.text ≡ joined asked.text) (brought : cut.brought.now ≡ asked.brought.now)
    (start : cut.start ≡ asked.start) (end : cut.end ≡ asked.end) (grown : cut.grown ≡ length asked.brought.now) where
  -- the spans that stay go where they are asked to
  pub cut_stays : (kept : List Span) → kept ≡ kept_spans asked.start asked.end (length asked.brought.now) spans
      → map (moved_span cut.start cut.end cut.grown (joined cut.text)) kept ≡ stays asked spans
  cut_stays kept is = rw (is, text, start, end, grown) refl

  pub cut_shifts : (kept : List Span) → kept ≡ kept_spans asked.start asked.end (length asked.brought.now) spans
      → filter has_moved (shifts_by (moved_span cut.start cut.end cut.grown (joined cut.text)) kept)
      ≡ filter has_moved (shifts_by (moved_span asked.start asked.end (length asked.brought.now) (joined asked.text))
      (kept_spans asked.start asked.end (length asked.brought.now) spans))
  cut_shifts kept is = rw (is, text, start, end, grown) refl

  -- and those come that are asked for
  pub cut_comes : (attached : List Span) → attached ≡ stays asked spans → arrivals cut attached (all_coming asked.coming) ≡ comes asked spans
  cut_comes attached is = same_comes asked spans attached (joined cut.text) cut.brought.now cut.start cut.end text brought start end is
