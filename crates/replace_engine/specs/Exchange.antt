-- What a replacement that is asked for makes of some spans.
use Rattle.std.specs.Prelude.{List, length, map}
use Rattle.edit_model.specs.State.{Span}
use Rattle.edit_model.specs.Brought.{newcomers, placed_span}
use Rattle.edit_model.specs.Replaced.{spliced, stayed_spans}
use Rattle.text_cut.specs.Coming.{all_coming}
use Rattle.text_cut.specs.Halves.{joined}
use Rattle.replace_engine.specs.declared.exchanging.Exchange.{Exchange}

-- those that aren't emptied, where they go
abbrev pub stays : Exchange → List Span → List Span
stays asked spans =
    stayed_spans (record { units = joined asked.text; spans = spans }) asked.start asked.end (length asked.brought.now)

-- those that come and are attached behind them
abbrev pub comes : Exchange → List Span → List Span
comes asked spans =
    newcomers (spliced (joined asked.text) asked.start asked.end asked.brought.now) (stays asked spans)
    (map (placed_span asked.start (length asked.brought.now)) (all_coming asked.coming))
