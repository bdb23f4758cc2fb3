-- The first free place is found, place by place.
use Rattle.std.proofs.Common.{◌≡◌, ◌∙◌, ◌-◌, true, false, ap, map, length, arith}
use Rattle.std.proofs.lemmas.List.{length-map}
use Rattle.settings_reader.proofs.Places.{first_from, first_here, first_behind, first_none, free_at}
use Rattle.settings_reader.proofs.shelf.first_free.Goals as goal

pub loop-place-init : goal.loop-place-init
loop-place-init g c =
    let shelf = c.args.shelf.now in
    let minds = map (λ b. (goal.Watcher-dyn g (b.vtable, b.value)).mind b.value) shelf in
    let count : length shelf - 0 ≡ length minds = omega (arith, length-map shelf (λ b. (goal.Watcher-dyn g (b.vtable, b.value)).mind b.value)) in
    ap (first_from c.args.kind c.args.slots.now minds 0) count

pub returns-then-is_free-clause-first : goal.returns-then-is_free-clause-first
returns-then-is_free-clause-first g c =
    let shelf = c.args.shelf.now in
    let minds = map (λ b. (goal.Watcher-dyn g (b.vtable, b.value)).mind b.value) shelf in
    first_here c.args.kind c.args.slots.now minds c.loop-place.place (length shelf) c.loop-place-test.true
    (free_at shelf (λ b. (goal.Watcher-dyn g (b.vtable, b.value)).mind b.value) c.args.kind c.args.slots.now c.loop-place.place
    c.index-shelf-place.result _ true c.loop-place-test.true c.index-shelf-place.is c.if-is_free.ensures)
    ∙ c.loop-place.invariant

pub loop-place-preserved : goal.loop-place-preserved
loop-place-preserved g c =
    let shelf = c.args.shelf.now in
    let minds = map (λ b. (goal.Watcher-dyn g (b.vtable, b.value)).mind b.value) shelf in
    first_behind c.args.kind c.args.slots.now minds c.loop-place.place (length shelf) c.loop-place-test.true
    (free_at shelf (λ b. (goal.Watcher-dyn g (b.vtable, b.value)).mind b.value) c.args.kind c.args.slots.now c.loop-place.place
    c.index-shelf-place.result _ false c.loop-place-test.true c.index-shelf-place.is c.if-is_free.ensures)
    ∙ c.loop-place.invariant

pub returns-clause-first : goal.returns-clause-first
returns-clause-first g c =
    let shelf = c.args.shelf.now in
    let minds = map (λ b. (goal.Watcher-dyn g (b.vtable, b.value)).mind b.value) shelf in
    first_none c.args.kind c.args.slots.now minds c.loop-place.place (length shelf) (omega (arith, c.loop-place-test.false)) ∙ c.loop-place.invariant
