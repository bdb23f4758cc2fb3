-- What the filters so far make of the text.
use Rattle.std.proofs.Common.{take}
use Rattle.input_filters.proofs.Walk.{Reached}
use Rattle.input_filters.proofs.filtering.filter_all.Given as goal

abbrev pub invariant-loop-filter : goal.invariant-loop-filter
invariant-loop-filter l = Reached l.others l.incoming (take l.filter-index l.filters) l.brought
