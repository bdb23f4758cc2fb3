-- Numbers keep their order, ids and kinds stay.
use Rattle.std.proofs.Common.{◌≡◌, length, get_or, map, refl, sym, subst, ap, ◌∙◌, arith}
use Rattle.std.specs.List.{IsDistinct, concat}
use Rattle.std.proofs.lemmas.List.{length-map}
use Rattle.id_slots.specs.Named.{AreNamed}
use Rattle.span_table.specs.Numbers.{ends_behind, starts_behind}
use Rattle.span_table.specs.declared.kept.KeptRow.{KeptRow}
use Rattle.span_table.specs.Table.{kept_span, seen}
use Rattle.interval_tree.specs.Ids.{same_number}
use Rattle.interval_tree.specs.Orders.{AreOrders, IsOrder}
use Rattle.interval_tree.proofs.IdsKept.{ids_anew}
use Rattle.interval_tree.proofs.IndexCarried.{order_anew, tally_anew}
use Rattle.interval_tree.proofs.IndexLaws.{whole_of}
use Rattle.interval_tree.proofs.index.SpanIndex.shift_for_gap.Goals as goal

pub raise-requires-clause-starting : goal.raise-requires-clause-starting
raise-requires-clause-starting c =
    let rows = c.self.inside.rows in
    let more = c.shift_for_gap.new.self in
    let order = concat c.self.inside.orders.by_start.blocks in
    subst (λ slots. IsOrder more.starts slots order) (sym c.shift_for_gap.ensures.slots)
    (order_anew (λ (row : KeptRow). row.start) starts_behind rows.gap rows.room c.args.new_gap c.args.new_room rows.kept more.kept rows.slots rows.starts
    more.starts order (λ row. refl) (λ row valid. valid.start) c.count-count.ensures.numbers c.count-count.ensures.placed c.shift_for_gap.ensures.kept
    c.count-count.ensures.start_numbers
    (λ i within. c.count-anew.ensures.start_numbers i within ∙ ap (λ slots. get_or more.starts (get_or slots i 0) 0) c.shift_for_gap.ensures.slots)
    (λ i within. omega (arith, c.count-count.ensures.below i 0 within, c.count-count.ensures.few)) c.self.invariant.orders.starting)

pub raise-requires-clause-ending : goal.raise-requires-clause-ending
raise-requires-clause-ending c =
    let rows = c.self.inside.rows in
    let more = c.shift_for_gap.new.self in
    let order = concat c.self.inside.orders.by_end.blocks in
    subst (λ slots. IsOrder more.ends slots order) (sym c.shift_for_gap.ensures.slots)
    (order_anew (λ (row : KeptRow). row.end) ends_behind rows.gap rows.room c.args.new_gap c.args.new_room rows.kept more.kept rows.slots rows.ends
    more.ends order (λ row. refl) (λ row valid. valid.end) c.count-count.ensures.numbers c.count-count.ensures.placed c.shift_for_gap.ensures.kept
    c.count-count.ensures.end_numbers
    (λ i within. c.count-anew.ensures.end_numbers i within ∙ ap (λ slots. get_or more.ends (get_or slots i 0) 0) c.shift_for_gap.ensures.slots)
    (λ i within. omega (arith, c.count-count.ensures.below i 0 within, c.count-count.ensures.few)) c.self.invariant.orders.ending)

pub invariant_of-self : goal.invariant_of-self
invariant_of-self c =
    let rows = c.self.inside.rows in
    let more = c.shift_for_gap.new.self in
    let kept = map (kept_span c.args.new_gap c.args.new_room) (map (seen rows.gap rows.room) rows.kept) in
    let ids = ids_anew rows.gap rows.room c.args.new_gap c.args.new_room rows.kept in
    let long : length kept ≡ length rows.kept =
    length-map (map (seen rows.gap rows.room) rows.kept) (kept_span c.args.new_gap c.args.new_room) ∙ length-map rows.kept (seen rows.gap rows.room) in
    whole_of more c.self.inside.ids c.raise.new.self.by_start c.raise.new.self.by_end _ c.self.inside.tally.composing c.self.inside.tally.seats
    kept rows.slots c.shift_for_gap.ensures.kept c.shift_for_gap.ensures.slots
    (subst (λ slots. AreOrders more.starts more.ends slots c.raise.new.self.by_start c.raise.new.self.by_end) c.shift_for_gap.ensures.slots c.raise.ensures.orders)
    (subst (λ numbers. AreNamed numbers rows.slots c.self.inside.ids) (sym ids) c.self.invariant.named)
    (subst (IsDistinct same_number) (sym ids) c.self.invariant.distinct)
    (tally_anew rows.gap rows.room c.args.new_gap c.args.new_room rows.kept rows.slots _ _ _ c.self.invariant.tally)
    (omega (arith, long, c.self.invariant.composing_places))
    (omega (arith, long, c.self.invariant.seat_places))
