-- The rows are gathered from none on.
use Rattle.std.proofs.Common.{◌++◌, length, map, arith, ap, subst, ◌∙◌}
use Rattle.std.specs.List.{concat}
use Rattle.span_table.specs.Table.{spans_of}
use Rattle.interval_tree.specs.Walk.{IsBound, IsStop, found, place_in}
use Rattle.interval_tree.proofs.QueryPlaces.{AreSlots, places_are}
use Rattle.interval_tree.proofs.query.ask.Goals as goal

pub gather-requires-clause-bound : goal.gather-requires-clause-bound
gather-requires-clause-bound g c =
    subst (λ gap. IsBound gap c.args.tree.rows.now.room c.args.start c.bound_of.result) c.gap.ensures
    (subst (λ room. IsBound c.gap.result room c.args.start c.bound_of.result) c.room.ensures c.bound_of.ensures)

pub gather-requires-clause-stop : goal.gather-requires-clause-stop
gather-requires-clause-stop g c =
    subst (λ gap. IsStop gap c.args.tree.rows.now.room c.args.end c.stop_of.result) c.gap-2.ensures
    (subst (λ room. IsStop c.gap-2.result room c.args.end c.stop_of.result) c.room-2.ensures c.stop_of.ensures)

pub returns-in-Ok-clause-ok : goal.returns-in-Ok-clause-ok
returns-in-Ok-clause-ok g c =
    c.in-Ok.ensures.ok
    ∙ ap (λ rows. rows ++ found c.args.asked c.args.start c.args.end (spans_of c.args.tree.rows.now)
    (map (place_in c.args.tree.rows.now.slots) (concat c.args.tree.by_start.now.blocks))) c.clear.ensures.items

pub returns-in-Err-clause-room : goal.returns-in-Err-clause-room
returns-in-Err-clause-room g c = λ fits.
    c.in-Err.ensures.room (omega (arith, fits, ap length c.clear.ensures.items, c.clear.ensures.capacity))

pub returns-in-Ok-clause-places : goal.returns-in-Ok-clause-places
returns-in-Ok-clause-places g c =
    let known = c.count-count.ensures in
    let rows = c.args.tree.rows.now in
    let slots : AreSlots rows = record { numbers = known.numbers; rising = known.rising; placed = known.placed; starting = known.start_numbers; ending = known.end_numbers } in
    places_are rows slots (concat c.args.tree.by_start.now.blocks) c.requires.order

pub returns-in-Err-clause-places : goal.returns-in-Err-clause-places
returns-in-Err-clause-places g c =
    let known = c.count-count.ensures in
    let rows = c.args.tree.rows.now in
    let slots : AreSlots rows = record { numbers = known.numbers; rising = known.rising; placed = known.placed; starting = known.start_numbers; ending = known.end_numbers } in
    places_are rows slots (concat c.args.tree.by_start.now.blocks) c.requires.order
