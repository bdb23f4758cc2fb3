-- What was read so far stands in front of what the other values say.
use Rattle.std.proofs.Common.{◌≡◌, drop}
use Rattle.toml.specs.View.{items_view}
use Rattle.trace_model.specs.Settings.{each_of}
use Rattle.settings_reader.proofs.Each.{behind}
use Rattle.settings_reader.proofs.arrays.each_of.Given as goal

abbrev pub invariant-loop-value : goal.invariant-loop-value
invariant-loop-value g l =
    behind l.read (each_of g.T.FromValue.reading (items_view (drop l.value-index l.values))) ≡ each_of g.T.FromValue.reading (items_view l.values)
