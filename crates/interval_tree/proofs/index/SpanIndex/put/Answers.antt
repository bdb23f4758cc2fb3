-- The slot goes out of both orders and comes in again with its new numbers.
use Rattle.std.proofs.Common.{◌≡◌, ◌<◌, length, get_or, sym, subst, ap, ◌∙◌, arith}
use Rattle.std.specs.List.{All, filter}
use Rattle.std.proofs.Math.ListN.{set}
use Rattle.std.proofs.lemmas.List.{get_or-set_same, length-set}
use Rattle.edit_model.specs.Rows.{span_of}
use Rattle.id_slots.specs.Named.{AreNamed}
use Rattle.row_kinds.specs.Kinds.{IsTally, is_composing_row, is_other, is_paragraph_row, is_seat_row}
use Rattle.row_kinds.proofs.KindChanges.{slots_count}
use Rattle.row_kinds.proofs.KindSlots.{climbs_from}
use Rattle.span_table.specs.declared.kept.KeptRow.{KeptRow}
use Rattle.span_table.specs.Table.{kept_at, kept_span, no_row, span_at, spans_of}
use Rattle.std.specs.List.{IsDistinct}
use Rattle.interval_tree.specs.Ids.{same_number}
use Rattle.interval_tree.specs.Orders.{AreOrders}
use Rattle.interval_tree.proofs.IdsKept.{id_seen, ids_set}
use Rattle.interval_tree.proofs.IndexLaws.{kind_fewer, kind_some, numbers_set, orders_alike, whole_of}
use Rattle.interval_tree.proofs.index.SpanIndex.put.Goals as goal

pub enter-requires-clause-others : goal.enter-requires-clause-others
enter-requires-clause-others c =
    let rows = c.self.inside.rows in
    let more = c.put.new.self in
    let slot = c.slot_at-slot.result in
    let others = filter (is_other slot) rows.slots in
    let row = kept_span rows.gap rows.room (span_of c.args.row.now) in
    let starts = c.put.ensures.starts ∙ ap (λ s. set rows.starts s row.start) (sym c.slot_at-slot.ensures.slot) in
    let ends = c.put.ensures.ends ∙ ap (λ s. set rows.ends s row.end) (sym c.slot_at-slot.ensures.slot) in
    subst (λ slots. AreOrders more.starts more.ends (filter (is_other slot) slots) c.leave.new.self.by_start c.leave.new.self.by_end) (sym c.put.ensures.slots)
    (orders_alike rows.starts rows.ends more.starts more.ends others c.leave.new.self.by_start c.leave.new.self.by_end c.leave.ensures.orders
    (subst (λ keys. All (λ s. get_or keys s 0 ≡ get_or rows.starts s 0) others) (sym starts) (numbers_set rows.starts slot row.start rows.slots))
    (subst (λ keys. All (λ s. get_or keys s 0 ≡ get_or rows.ends s 0) others) (sym ends) (numbers_set rows.ends slot row.end rows.slots)))

pub change-requires-clause-few : goal.change-requires-clause-few
change-requires-clause-few c = λ fails.
    let rows = c.self.inside.rows in
    let within : c.args.i < length rows.kept = omega (arith, c.requires.within, ap (λ seen. length seen.kept) c.self.view_is) in
    omega (
      arith,
      kind_fewer is_paragraph_row rows.kept c.args.i within (ap is_paragraph_row (sym c.kept-old.ensures.row) ∙ fails),
      c.self.invariant.tally.counted,
      c.count-count.ensures.bound,
    )

pub change-requires-clause-counted : goal.change-requires-clause-counted
change-requires-clause-counted c = λ is.
    let rows = c.self.inside.rows in
    let within : c.args.i < length rows.kept = omega (arith, c.requires.within, ap (λ seen. length seen.kept) c.self.view_is) in
    omega (
      arith,
      kind_some is_paragraph_row rows.kept c.args.i within (ap is_paragraph_row (sym c.kept-old.ensures.row) ∙ is),
      c.self.invariant.tally.counted,
    )

pub change-requires-clause-composing_room : goal.change-requires-clause-composing_room
change-requires-clause-composing_room c = λ fails.
    let rows = c.self.inside.rows in
    let within : c.args.i < length rows.kept = omega (arith, c.requires.within, ap (λ seen. length seen.kept) c.self.view_is) in
    omega (
      arith,
      kind_fewer is_composing_row rows.kept c.args.i within (ap is_composing_row (sym c.kept-old.ensures.row) ∙ fails),
      slots_count is_composing_row rows.kept rows.slots c.count-count.ensures.placed,
      ap length c.self.invariant.tally.composed,
      c.self.invariant.composing_places,
    )

pub change-requires-clause-seats_room : goal.change-requires-clause-seats_room
change-requires-clause-seats_room c = λ fails.
    let rows = c.self.inside.rows in
    let within : c.args.i < length rows.kept = omega (arith, c.requires.within, ap (λ seen. length seen.kept) c.self.view_is) in
    omega (
      arith,
      kind_fewer is_seat_row rows.kept c.args.i within (ap is_seat_row (sym c.kept-old.ensures.row) ∙ fails),
      slots_count is_seat_row rows.kept rows.slots c.count-count.ensures.placed,
      ap length c.self.invariant.tally.seated,
      c.self.invariant.seat_places,
    )

pub invariant_of-self : goal.invariant_of-self
invariant_of-self c =
    let rows = c.self.inside.rows in
    let more = c.put.new.self in
    let i = c.args.i in
    let row = kept_span rows.gap rows.room (span_of c.args.row.now) in
    let within : i < length rows.kept = omega (arith, c.requires.within, ap (λ seen. length seen.kept) c.self.view_is) in
    let up = climbs_from rows.slots c.count-count.ensures.rising in
    let new : c.kept.result ≡ row = c.kept.ensures.row ∙ ap (λ kept. kept_at kept i) c.put.ensures.kept ∙ get_or-set_same rows.kept i row no_row within in
    let stays : row.id ≡ (get_or rows.kept i no_row).id =
    c.requires.id ∙ ap (λ seen. (span_at (spans_of seen) i).id) (sym c.self.view_is) ∙ id_seen rows.gap rows.room rows.kept i within in
    let ids = ids_set rows.kept i row stays in
    let long = length-set rows.kept i row in
    whole_of more c.self.inside.ids c.enter.new.self.by_start c.enter.new.self.by_end _ c.change.new.self.composing c.change.new.self.seats
    (set rows.kept i row) rows.slots c.put.ensures.kept c.put.ensures.slots
    (subst (λ slots. AreOrders more.starts more.ends slots c.enter.new.self.by_start c.enter.new.self.by_end) c.put.ensures.slots c.enter.ensures.orders)
    (subst (λ numbers. AreNamed numbers rows.slots c.self.inside.ids) (sym ids) c.self.invariant.named)
    (subst (IsDistinct same_number) (sym ids) c.self.invariant.distinct)
    (subst (λ (k : KeptRow). IsTally (set rows.kept i k) rows.slots c.change.new.self.paragraphs c.change.new.self.composing.slots c.change.new.self.seats.slots) new
    (c.change.ensures.tally rows.kept rows.slots i c.count-count.ensures.placed up within (sym c.slot_at-slot.ensures.slot) (sym c.kept-old.ensures.row)
    c.self.invariant.tally))
    (omega (arith, long, c.self.invariant.composing_places, c.change.ensures.composing_places))
    (omega (arith, long, c.self.invariant.seat_places, c.change.ensures.seats_places))
