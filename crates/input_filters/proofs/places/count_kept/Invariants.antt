-- The counts so far, and how many are kept.
use Rattle.std.proofs.Common.{◌≡◌, ◌≤◌}
use Rattle.input_filters.specs.Kept.{is_kept, count_before}
use Rattle.input_filters.proofs.Counts.{CountsTo}
use Rattle.input_filters.proofs.places.count_kept.Given as goal

abbrev pub invariant-loop-unit : goal.invariant-loop-unit
invariant-loop-unit l = record {
  counts : CountsTo (is_kept l.filter) l.units l.counts.items l.unit-index;
  kept : l.kept ≡ count_before (is_kept l.filter) l.units l.unit-index;
  few : l.kept ≤ l.unit-index;
}
