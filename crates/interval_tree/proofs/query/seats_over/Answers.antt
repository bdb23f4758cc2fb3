-- The seats over the range are sorted.
use Rattle.std.proofs.Common.{◌≡◌, true, length, arith, ap, subst, sym, ◌∙◌}
use Rattle.std.specs.List.{All, range_with_len}
use Rattle.std.specs.List.Sorted.{IsPermutation}
use Rattle.std.proofs.lemmas.List.{length-map}
use Rattle.std.proofs.lemmas.List.Sorted.{All-permutation, IsPermutation-refl}
use Rattle.edit_base.specs.declared.rows.Pick.TheVariants.{Watches}
use Rattle.edit_model.specs.Rows.{IsAtOrder}
use Rattle.slot_ranks.specs.Slots.{is_among}
use Rattle.interval_tree.specs.declared.walk.Asked.TheVariants.{Over}
use Rattle.span_table.specs.Table.{seen, spans_of}
use Rattle.interval_tree.proofs.QueryOrder.{found_orders, found_over}
use Rattle.interval_tree.proofs.QueryPlaces.{AreSlots}
use Rattle.interval_tree.proofs.QuerySeats.{seats_few, seats_live, seats_watched}
use Rattle.interval_tree.proofs.Ranges.{all_range}
use Rattle.interval_tree.proofs.query.seats_over.Goals as goal

pub take_seats-requires-clause-live : goal.take_seats-requires-clause-live
take_seats-requires-clause-live g c = subst (All (λ seat. is_among c.args.rows.now.slots seat ≡ true)) (sym c.requires.all) (seats_live c.args.rows.now)

pub returns-in-Ok-clause-ok : goal.returns-in-Ok-clause-ok
returns-in-Ok-clause-ok g c =
    let known = c.count-count.ensures in
    let rows = c.args.rows.now in
    let slots : AreSlots rows = record { numbers = known.numbers; rising = known.rising; placed = known.placed; starting = known.start_numbers; ending = known.end_numbers } in
    found_over c.args.start c.args.end Watches (spans_of rows) (range_with_len 0 (length (spans_of rows)))
    (IsPermutation-refl (range_with_len 0 (length (spans_of rows)))) c.sort.new.rows.items
    (omega (arith, length-map rows.kept (seen rows.gap rows.room), known.bound))
    (subst (λ items. IsPermutation items c.sort.new.rows.items)
    (c.in-Ok.ensures.ok ∙ seats_watched rows slots c.args.start c.args.end c.args.seats.now c.requires.all) c.sort.ensures.permutation)
    c.sort.ensures.rising

pub returns-in-Ok-clause-orders : goal.returns-in-Ok-clause-orders
returns-in-Ok-clause-orders g c =
    let known = c.count-count.ensures in
    let rows = c.args.rows.now in
    let slots : AreSlots rows = record { numbers = known.numbers; rising = known.rising; placed = known.placed; starting = known.start_numbers; ending = known.end_numbers } in
    All-permutation (IsAtOrder (spans_of rows)) c.take_seats.new.out.items c.sort.new.rows.items c.sort.ensures.permutation
    (subst (All (IsAtOrder (spans_of rows))) (sym (c.in-Ok.ensures.ok
    ∙ seats_watched rows slots c.args.start c.args.end c.args.seats.now c.requires.all))
    (found_orders (Over Watches) c.args.start c.args.end (spans_of rows) (range_with_len 0 (length (spans_of rows)))
    (all_range (length (spans_of rows)))))

pub returns-in-Err-clause-room : goal.returns-in-Err-clause-room
returns-in-Err-clause-room g c = λ fits.
    let known = c.count-count.ensures in
    let rows = c.args.rows.now in
    let slots : AreSlots rows = record { numbers = known.numbers; rising = known.rising; placed = known.placed; starting = known.start_numbers; ending = known.end_numbers } in
    c.in-Err.ensures.room (omega (arith, fits, seats_few rows slots, ap length c.requires.all, c.clear.ensures.capacity))
