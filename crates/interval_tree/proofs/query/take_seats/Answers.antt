-- A seat more.
use Rattle.std.proofs.Common.{◌<◌, ◌++◌, length, get_or, [], ◌∷◌, ap, ◌∙◌, refl, sym, arith}
use Rattle.edit_base.specs.declared.rows.Pick.TheVariants as pick
use Rattle.interval_tree.specs.declared.walk.Asked.TheVariants.{Over}
use Rattle.span_table.specs.Table.{spans_of}
use Rattle.interval_tree.specs.Walk.{found, place_in}
use Rattle.interval_tree.proofs.QueryRows.{found_none}
use Rattle.interval_tree.proofs.QuerySeats.{at_ok, found_more, found_within, step_ok}
use Rattle.interval_tree.proofs.query.take_seats.Goals as goal

pub loop-seat-init : goal.loop-seat-init
loop-seat-init g c = record {
  ok = c.requires.none ∙ sym (found_none (Over pick.All) c.args.start c.args.end (spans_of c.args.rows.now));
  ticks = omega arith;
  room = λ fits. refl;
  capacity = omega arith;
}

pub loop-seat-preserved : goal.loop-seat-preserved
loop-seat-preserved g c =
    let inside : c.loop-seat.seat-index < length c.args.seats.now = omega arith in
    let place = place_in c.args.rows.now.slots in
    record {
      ok = step_ok c.take_seat-so_far.result c.loop-seat.so_far c.take_seat-so_far.ensures.so_far c.take_seat-so_far.ensures.ok c.loop-seat.invariant.ok
          (λ here there.
          here
          ∙ ap (λ rows. rows ++ found (Over pick.All) c.args.start c.args.end (spans_of c.args.rows.now)
          (place (get_or c.args.seats.now c.loop-seat.seat-index 0) ∷ [])) there
          ∙ sym (found_more (Over pick.All) c.args.start c.args.end (spans_of c.args.rows.now) place c.args.seats.now c.loop-seat.seat-index inside));
      ticks = omega (arith, c.take_seat-so_far.ensures.tick, c.loop-seat.invariant.ticks);
      room = λ fits.
          c.take_seat-so_far.ensures.room (c.loop-seat.invariant.room fits)
          (omega (
            arith,
            fits,
            c.loop-seat.invariant.capacity,
            inside,
            found_within (Over pick.All) c.args.start c.args.end (spans_of c.args.rows.now) place c.args.seats.now c.loop-seat.seat-index
                c.loop-seat.out.items (at_ok c.loop-seat.so_far c.loop-seat.invariant.ok (c.loop-seat.invariant.room fits)) inside,
          ));
      capacity = omega (arith, c.loop-seat.invariant.capacity, c.take_seat-so_far.ensures.capacity);
    }
