-- The entries up to here loaded their watchers, and the others load theirs behind them.
use Rattle.std.proofs.Common.{map}
use Rattle.settings_reader.proofs.Loads.{IsSoFar}
use Rattle.settings_reader.proofs.shelf.load_shelf.Given as goal

abbrev pub invariant-loop-entry : goal.invariant-loop-entry
invariant-loop-entry g l =
    IsSoFar l.entry-items (map (λ b. (goal.Watcher-dyn g (b.vtable, b.value)).mind b.value) l.initial.shelf.items) l.slots.items
    (map (λ b. (goal.Watcher-dyn g (b.vtable, b.value)).mind b.value) l.shelf.items) l.entry-index
