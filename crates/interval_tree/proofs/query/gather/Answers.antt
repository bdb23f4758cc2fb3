-- The slots that are given are those of the rows that touch the range.
use Rattle.std.proofs.Common.{◌≡◌, ◌<◌, ◌++◌, [], ◌∷◌, length, map, sym, ap, ◌∙◌, subst, arith}
use Rattle.std.specs.List.{All, concat}
use Rattle.std.specs.List.Sorted.{IsNonDecreasingBy}
use Rattle.std.proofs.lemmas.List.{append-nil}
use Rattle.std.proofs.lemmas.List.Sorted.{All-permutation}
use Rattle.span_order.specs.Ranked.{rank_in}
use Rattle.span_order.proofs.Entries.{place_within}
use Rattle.span_table.specs.Table.{spans_of}
use Rattle.interval_tree.specs.Walk.{found, place_in}
use Rattle.interval_tree.proofs.QueryPlaces.{AreSlots, at_both, found_hits, found_next, hit_among, hits_few, hits_within, left_from, one_longer}
use Rattle.interval_tree.proofs.QueryRows.{found_none}
use Rattle.interval_tree.proofs.query.gather.Goals as goal

pub next_hit-requires-clause-rising : goal.next_hit-requires-clause-rising
next_hit-requires-clause-rising g c =
    subst (λ keys. IsNonDecreasingBy (rank_in keys) (concat c.args.tree.by_start.now.blocks)) (sym c.starts.ensures) c.requires.order.rising

pub next_hit-requires-clause-starts : goal.next_hit-requires-clause-starts
next_hit-requires-clause-starts g c =
    subst (λ keys. All (λ slot. slot < length keys) (concat c.args.tree.by_start.now.blocks)) (sym c.starts.ensures)
    (All-permutation (λ slot. slot < length c.args.tree.rows.now.starts) c.args.tree.rows.now.slots (concat c.args.tree.by_start.now.blocks)
    c.requires.order.all c.count-count.ensures.below)

pub next_hit-requires-clause-ends : goal.next_hit-requires-clause-ends
next_hit-requires-clause-ends g c =
    subst (λ keys. All (λ slot. slot < length keys) (concat c.args.tree.by_start.now.blocks)) (sym c.ends.ensures)
    (All-permutation (λ slot. slot < length c.args.tree.rows.now.ends) c.args.tree.rows.now.slots (concat c.args.tree.by_start.now.blocks)
    c.requires.order.all (λ k d within. omega (arith, c.count-count.ensures.below k d within, c.count-count.ensures.ends)))

pub take_hit-requires : goal.take_hit-requires
take_hit-requires g c = record {
  live = hit_among c.args.tree.rows.now.starts c.args.tree.rows.now.slots (concat c.args.tree.by_start.now.blocks) _ _ _ c.in-Some.slot
      c.requires.order c.in-Some.ensures.some;
}

pub loop-slot-preserved : goal.loop-slot-preserved
loop-slot-preserved g c =
    let rows = c.args.tree.rows.now in
    let blocks = c.args.tree.by_start.now.blocks in
    let q = c.args.query.now in
    let inv = c.loop-slot.invariant in
    let next = at_both (λ starts ends. left_from starts ends q.bound q.stop blocks c.loop-slot.at
    ≡ c.in-Some.slot ∷ left_from starts ends q.bound q.stop blocks c.next_hit.new.at)
    _ rows.starts _ rows.ends c.starts.ensures c.ends.ensures c.in-Some.ensures.some in
    record {
      place = c.in-Some.ensures.place;
      ok = found_next q.asked q.start q.end (spans_of rows) (place_in rows.slots) c.in-Some.slot _ _ c.loop-slot.out.items c.take_hit.new.out.items next
          c.in_ok-take_hit.ensures.ok ∙ inv.ok;
      ticks = omega (arith, inv.ticks, c.in-Some.ensures.ticks, ap length next);
      looked = omega (arith, inv.looked, c.in-Some.ensures.looked);
      more = omega (arith, inv.more, c.in-Some.ensures.more);
      room = omega (
        arith,
        inv.room,
        ap length next,
        one_longer q.asked q.start q.end (spans_of rows) (place_in rows.slots c.in-Some.slot)
            c.loop-slot.out.items c.take_hit.new.out.items c.in_ok-take_hit.ensures.ok,
      );
      capacity = omega (arith, inv.capacity, c.take_hit.ensures.capacity);
    }

pub returns-in_err-take_hit-clause-ticks : goal.returns-in_err-take_hit-clause-ticks
returns-in_err-take_hit-clause-ticks g c =
    let rows = c.args.tree.rows.now in
    let blocks = c.args.tree.by_start.now.blocks in
    let q = c.args.query.now in
    let inv = c.loop-slot.invariant in
    let known = c.count-count.ensures in
    let slots : AreSlots rows = record { numbers = known.numbers; rising = known.rising; placed = known.placed; starting = known.start_numbers; ending = known.end_numbers } in
    hits_within rows slots (concat blocks) c.requires.order q.start q.end q.bound q.stop c.requires.bound c.requires.stop c.args.steps.now c.next_hit.new.steps
    (omega (arith, inv.looked, c.in-Some.ensures.looked, place_within blocks c.next_hit.new.at c.in-Some.ensures.place))
    (omega (arith, inv.ticks, c.in-Some.ensures.ticks))

pub returns-in_err-take_hit-clause-room : goal.returns-in_err-take_hit-clause-room
returns-in_err-take_hit-clause-room g c = λ fits.
    let rows = c.args.tree.rows.now in
    let blocks = c.args.tree.by_start.now.blocks in
    let q = c.args.query.now in
    let inv = c.loop-slot.invariant in
    let known = c.count-count.ensures in
    let slots : AreSlots rows = record { numbers = known.numbers; rising = known.rising; placed = known.placed; starting = known.start_numbers; ending = known.end_numbers } in
    let next = at_both (λ starts ends. left_from starts ends q.bound q.stop blocks c.loop-slot.at
    ≡ c.in-Some.slot ∷ left_from starts ends q.bound q.stop blocks c.next_hit.new.at)
    _ rows.starts _ rows.ends c.starts.ensures c.ends.ensures c.in-Some.ensures.some in
    absurd (let no = c.in_err-take_hit.ensures.room (omega (
      arith,
      fits,
      inv.room,
      inv.capacity,
      ap length next,
      hits_few rows slots (concat blocks) c.requires.order q.start q.end q.bound q.stop c.requires.bound c.requires.stop,
    )) in cc)

pub returns-clause-ok : goal.returns-clause-ok
returns-clause-ok g c =
    let rows = c.args.tree.rows.now in
    let blocks = c.args.tree.by_start.now.blocks in
    let q = c.args.query.now in
    let inv = c.loop-slot.invariant in
    let known = c.count-count.ensures in
    let slots : AreSlots rows = record { numbers = known.numbers; rising = known.rising; placed = known.placed; starting = known.start_numbers; ending = known.end_numbers } in
    let none : left_from c.starts.result.now c.ends.result.now q.bound q.stop blocks c.loop-slot.at ≡ [] = c.in_default.ensures.none in
    let gone = at_both (λ starts ends. left_from starts ends q.bound q.stop blocks c.loop-slot.at ≡ [])
    _ rows.starts _ rows.ends c.starts.ensures c.ends.ensures none in
    sym (append-nil c.loop-slot.out.items)
    ∙ ap (λ more. c.loop-slot.out.items ++ more) (sym (found_none q.asked q.start q.end (spans_of rows)))
    ∙ ap (λ left. c.loop-slot.out.items ++ found q.asked q.start q.end (spans_of rows) (map (place_in rows.slots) left)) (sym gone)
    ∙ inv.ok
    ∙ ap (λ more. c.args.out.now.items ++ more)
    (found_hits rows slots (concat blocks) c.requires.order q.start q.end q.bound q.stop c.requires.bound c.requires.stop q.asked)

pub returns-clause-ticks : goal.returns-clause-ticks
returns-clause-ticks g c =
    let rows = c.args.tree.rows.now in
    let blocks = c.args.tree.by_start.now.blocks in
    let q = c.args.query.now in
    let inv = c.loop-slot.invariant in
    let known = c.count-count.ensures in
    let slots : AreSlots rows = record { numbers = known.numbers; rising = known.rising; placed = known.placed; starting = known.start_numbers; ending = known.end_numbers } in
    hits_within rows slots (concat blocks) c.requires.order q.start q.end q.bound q.stop c.requires.bound c.requires.stop c.args.steps.now c.next_hit.new.steps
    (omega (arith, inv.looked, c.next_hit.ensures.looked, place_within blocks c.next_hit.new.at c.next_hit.ensures.place))
    (omega (arith, inv.ticks, c.next_hit.ensures.ticks))
