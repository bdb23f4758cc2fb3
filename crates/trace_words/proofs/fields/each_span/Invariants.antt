-- The spans so far, and then what the values from here on say.
use Rattle.std.proofs.Common.{◌≡◌, ◌++◌, drop, option_map}
use Rattle.serde_json.specs.View.{items_view}
use Rattle.trace_model.specs.Reading.{spans_said}
use Rattle.trace_words.proofs.fields.each_span.Given as goal

abbrev pub invariant-loop-value : goal.invariant-loop-value
invariant-loop-value l =
    spans_said (items_view l.values) ≡ option_map (λ rest. l.spans.items ++ rest) (spans_said (items_view (drop l.value-index l.values)))
