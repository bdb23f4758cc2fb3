-- No place up to here was free: the first free place is the first from here on.
use Rattle.std.proofs.Common.{◌≡◌, ◌-◌, map}
use Rattle.trace_model.specs.Shelves.{first_free}
use Rattle.settings_reader.proofs.Places.{first_from}
use Rattle.settings_reader.proofs.shelf.first_free.Given as goal

abbrev pub invariant-loop-place : goal.invariant-loop-place
invariant-loop-place g l =
    let minds = map (λ b. (goal.Watcher-dyn g (b.vtable, b.value)).mind b.value) l.shelf in
    first_from l.kind l.slots minds l.place (l.place-end - l.place) ≡ first_free l.kind l.slots minds
