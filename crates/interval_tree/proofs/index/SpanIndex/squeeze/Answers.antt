-- Orders, ids and kinds go along when slots get their ranks.
use Rattle.std.proofs.Common.{◌<◌, length, sym, subst, ap, ◌∙◌, arith}
use Rattle.std.specs.List.{concat, range_with_len}
use Rattle.id_slots.specs.Named.{AreNamed}
use Rattle.row_kinds.specs.Kinds.{IsTally, is_composing_row, is_seat_row}
use Rattle.interval_tree.specs.Ids.{ids_of}
use Rattle.interval_tree.specs.Orders.{AreOrders}
use Rattle.interval_tree.proofs.IndexLaws.{whole_of}
use Rattle.interval_tree.proofs.IndexRenamed.{kind_renamed, order_squeezed, slots_renamed_all}
use Rattle.interval_tree.proofs.index.SpanIndex.squeeze.Goals as goal

pub renumber-requires-3-clause-composing : goal.renumber-requires-3-clause-composing
renumber-requires-3-clause-composing c =
    let rows = c.self.inside.rows in
    kind_renamed c.ranks-ranks.result.now.live rows.slots c.ranks-ranks.ensures c.count-count.ensures.rising is_composing_row rows.kept
    c.self.inside.tally.composing.slots c.self.invariant.tally.composed

pub renumber-requires-3-clause-seats : goal.renumber-requires-3-clause-seats
renumber-requires-3-clause-seats c =
    let rows = c.self.inside.rows in
    kind_renamed c.ranks-ranks.result.now.live rows.slots c.ranks-ranks.ensures c.count-count.ensures.rising is_seat_row rows.kept
    c.self.inside.tally.seats.slots c.self.invariant.tally.seated

pub raise-requires-clause-starting : goal.raise-requires-clause-starting
raise-requires-clause-starting c =
    let rows = c.self.inside.rows in
    order_squeezed c.ranks-ranks.result.now.live rows.slots c.ranks-ranks.ensures c.count-count.ensures.rising rows.starts c.squeeze.new.self.starts
    c.squeeze.new.self.slots (concat c.self.inside.orders.by_start.blocks) (concat c.renumber-2.new.self.by_start.blocks)
    c.self.invariant.orders.starting c.squeeze.ensures.starts
    (c.squeeze.ensures.slots ∙ ap (range_with_len 0) (sym c.count-count.ensures.placed)) c.renumber-2.ensures.starting
    (λ s has. let below = subst (λ t. t < length rows.starts) has.2 (c.count-count.ensures.below has.0 s has.1) in omega (arith, below, c.count-count.ensures.few))

pub raise-requires-clause-ending : goal.raise-requires-clause-ending
raise-requires-clause-ending c =
    let rows = c.self.inside.rows in
    order_squeezed c.ranks-ranks.result.now.live rows.slots c.ranks-ranks.ensures c.count-count.ensures.rising rows.ends c.squeeze.new.self.ends
    c.squeeze.new.self.slots (concat c.self.inside.orders.by_end.blocks) (concat c.renumber-2.new.self.by_end.blocks)
    c.self.invariant.orders.ending c.squeeze.ensures.ends
    (c.squeeze.ensures.slots ∙ ap (range_with_len 0) (sym c.count-count.ensures.placed)) c.renumber-2.ensures.ending
    (λ s has. let below = subst (λ t. t < length rows.starts) has.2 (c.count-count.ensures.below has.0 s has.1) in omega (arith, below, c.count-count.ensures.few))

pub invariant_of-self : goal.invariant_of-self
invariant_of-self c =
    let rows = c.self.inside.rows in
    let live = c.ranks-ranks.result.now.live in
    let more = c.squeeze.new.self in
    let slots = slots_renamed_all live rows.slots c.ranks-ranks.ensures c.count-count.ensures.rising (length rows.kept) c.count-count.ensures.placed in
    let named = c.squeeze.ensures.slots in
    whole_of more c.renumber.new.self c.raise.new.self.by_start c.raise.new.self.by_end _ c.renumber-3.new.self.composing c.renumber-3.new.self.seats
    rows.kept (range_with_len 0 (length rows.kept)) c.squeeze.ensures.kept named
    (subst (λ s. AreOrders more.starts more.ends s c.raise.new.self.by_start c.raise.new.self.by_end) named c.raise.ensures.orders)
    (subst (λ s. AreNamed (ids_of rows.kept) s c.renumber.new.self) slots (c.renumber.ensures.named (ids_of rows.kept) rows.slots c.self.invariant.named))
    c.self.invariant.distinct
    (subst (λ s. IsTally rows.kept s c.renumber-3.new.self.paragraphs c.renumber-3.new.self.composing.slots c.renumber-3.new.self.seats.slots) slots
    (c.renumber-3.ensures.tally rows.kept rows.slots c.self.invariant.tally))
    (omega (arith, c.self.invariant.composing_places, c.renumber-3.ensures.composing_places))
    (omega (arith, c.self.invariant.seat_places, c.renumber-3.ensures.seats_places))
