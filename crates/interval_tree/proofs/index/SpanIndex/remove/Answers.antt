-- The row's slot, its id and its kinds go; those of the others stay.
use Rattle.std.proofs.Common.{◌≡◌, ◌<◌, length, get_or, refl, sym, subst, ap, ◌∙◌, arith}
use Rattle.std.specs.List.{All, filter}
use Rattle.std.specs.Option.{IsSome}
use Rattle.std.proofs.lemmas.List.{get_or-map, length-map}
use Rattle.id_slots.specs.Named.{AreNamed, slot_in}
use Rattle.id_slots.proofs.Laws.{named_at}
use Rattle.row_kinds.specs.Kinds.{is_other, is_paragraph_row}
use Rattle.row_kinds.proofs.KindSlots.{climbs_from}
use Rattle.span_table.specs.declared.kept.KeptRow.{KeptRow}
use Rattle.span_table.specs.Table.{no_row, without_at}
use Rattle.interval_tree.specs.Ids.{ids_of}
use Rattle.interval_tree.specs.Orders.{AreOrders}
use Rattle.interval_tree.proofs.IdsKept.{ids_without, without_ids}
use Rattle.interval_tree.proofs.IndexLaws.{kind_some, length_without, numbers_take, orders_alike, removed_at, slots_without, whole_of}
use Rattle.interval_tree.proofs.index.SpanIndex.remove.Goals as goal

pub remove-requires : goal.remove-requires
remove-requires c =
    let rows = c.self.inside.rows in
    let i = c.args.i in
    let within : i < length rows.kept = omega (arith, c.requires, ap (λ seen. length seen.kept) c.self.view_is) in
    let is : get_or (ids_of rows.kept) i 0 ≡ c.kept-row.result.id =
    get_or-map (λ (row : KeptRow). row.id) rows.kept i no_row 0 within ∙ ap (λ (row : KeptRow). row.id) (sym c.kept-row.ensures.row) in
    let found = ap (slot_in c.self.inside.ids) (sym is)
    ∙ named_at (ids_of rows.kept) rows.slots c.self.inside.ids i c.self.invariant.distinct c.self.invariant.named
    (omega (arith, within, length-map rows.kept (λ (row : KeptRow). row.id))) in
    subst IsSome (sym found) refl

pub leave-requires-2 : goal.leave-requires-2
leave-requires-2 c = record {
  counted = λ is.
      let rows = c.self.inside.rows in
      let within : c.args.i < length rows.kept = omega (arith, c.requires, ap (λ seen. length seen.kept) c.self.view_is) in
      omega (
        arith,
        kind_some is_paragraph_row rows.kept c.args.i within (ap is_paragraph_row (sym c.kept-row.ensures.row) ∙ is),
        c.self.invariant.tally.counted,
      );
}

pub invariant_of-self : goal.invariant_of-self
invariant_of-self c =
    let rows = c.self.inside.rows in
    let left = c.remove-2.new.self in
    let i = c.args.i in
    let slot = c.slot_at-slot.result in
    let within : i < length rows.kept = omega (arith, c.requires, ap (λ seen. length seen.kept) c.self.view_is) in
    let placed = c.count-count.ensures.placed in
    let inside : i < length rows.slots = omega (arith, within, placed) in
    let up = climbs_from rows.slots c.count-count.ensures.rising in
    let by_start = c.leave.new.self.by_start in
    let by_end = c.leave.new.self.by_end in
    let others : filter (is_other slot) rows.slots ≡ without_at i rows.slots =
    ap (λ s. filter (is_other s) rows.slots) c.slot_at-slot.ensures.slot ∙ slots_without rows.slots i up inside ∙ sym (removed_at i rows.slots) in
    let orders : AreOrders rows.starts rows.ends (without_at i rows.slots) by_start by_end =
    subst (λ slots. AreOrders rows.starts rows.ends slots by_start by_end) others c.leave.ensures.orders in
    let below : All (λ s. s < length left.starts) (without_at i rows.slots) =
    subst (λ slots. All (λ s. s < length left.starts) slots) c.remove-2.ensures.slots c.count-left.ensures.below in
    let below_ends : All (λ s. s < length left.ends) (without_at i rows.slots) = λ k d h. omega (arith, below k d h, c.count-left.ensures.ends) in
    let id_is : get_or (ids_of rows.kept) i 0 ≡ c.kept-row.result.id =
    get_or-map (λ (row : KeptRow). row.id) rows.kept i no_row 0 within ∙ ap (λ (row : KeptRow). row.id) (sym c.kept-row.ensures.row) in
    let fewer = length_without i rows.kept within in
    whole_of left c.remove.new.self by_start by_end _ c.leave-2.new.self.composing c.leave-2.new.self.seats
    (without_at i rows.kept) (without_at i rows.slots) c.remove-2.ensures.kept c.remove-2.ensures.slots
    (orders_alike rows.starts rows.ends left.starts left.ends (without_at i rows.slots) by_start by_end orders
    (subst (λ keys. All (λ s. get_or keys s 0 ≡ get_or rows.starts s 0) (without_at i rows.slots)) (sym c.remove-2.ensures.starts)
    (numbers_take rows.starts (length left.starts) (without_at i rows.slots) below))
    (subst (λ keys. All (λ s. get_or keys s 0 ≡ get_or rows.ends s 0) (without_at i rows.slots)) (sym c.remove-2.ensures.ends)
    (numbers_take rows.ends (length left.ends) (without_at i rows.slots) below_ends)))
    (subst (λ ids. AreNamed ids (without_at i rows.slots) c.remove.new.self) (sym (without_ids rows.kept i))
    (c.remove.ensures.named (ids_of rows.kept) rows.slots i c.self.invariant.distinct c.self.invariant.named
    (omega (arith, within, length-map rows.kept (λ (row : KeptRow). row.id))) id_is))
    (ids_without rows.kept i within c.self.invariant.distinct)
    (c.leave-2.ensures.tally rows.kept rows.slots i placed up within (sym c.slot_at-slot.ensures.slot) (sym c.kept-row.ensures.row) c.self.invariant.tally)
    (omega (arith, fewer, c.self.invariant.composing_places, c.leave-2.ensures.composing_places))
    (omega (arith, fewer, c.self.invariant.seat_places, c.leave-2.ensures.seats_places))
