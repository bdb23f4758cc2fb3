-- The row comes behind the others, in a slot behind theirs.
use Rattle.std.proofs.Common.{◌≡◌, ◌+◌, ◌-◌, ◌<◌, ◌++◌, ◌∷◌, [], length, length-append, get_or, sym, subst, ap, ◌∙◌, arith}
use Rattle.std.specs.List.{All, filter}
use Rattle.std.proofs.lemmas.List.{get_or_push, map-append}
use Rattle.edit_model.specs.Attached.{is_attached}
use Rattle.edit_model.specs.Rows.{span_of}
use Rattle.id_slots.specs.Named.{AreNamed}
use Rattle.row_kinds.specs.Kinds.{IsTally, is_composing_row, is_other, is_paragraph_row, is_seat_row}
use Rattle.span_table.specs.Table.{kept_span, spans_of}
use Rattle.span_table.specs.declared.kept.KeptRow.{KeptRow}
use Rattle.interval_tree.specs.Ids.{HaveDistinctIds, ids_of}
use Rattle.interval_tree.specs.Orders.{AreOrders}
use Rattle.interval_tree.proofs.IdsKept.{ids_more}
use Rattle.interval_tree.proofs.IndexLaws.{at_ok, kind_few, named_none, numbers_more, orders_alike, others_left, row_added, slots_few}
use Rattle.interval_tree.proofs.Spares.{room_all, room_each}
use Rattle.interval_tree.proofs.index.SpanIndex.append.Goals as goal

pub insert-requires-clause-absent : goal.insert-requires-clause-absent
insert-requires-clause-absent c =
    let rows = c.self.inside.rows in
    c.self.invariant.named.beside c.args.row.now.id
    ∙ named_none rows.gap rows.room c.args.row.now.id rows.kept rows.slots
    (ap (λ seen. is_attached c.args.row.now.id (spans_of seen)) c.self.view_is ∙ c.requires.id)

pub enter-requires-clause-others : goal.enter-requires-clause-others
enter-requires-clause-others c =
    let rows = c.self.inside.rows in
    let spare = ap (λ seen. seen.spare) c.self.view_is in
    let left = ap (λ seen. seen.left) c.self.view_is in
    let done = c.add.ensures.within (omega (arith, c.requires.spare, spare)) in
    let some : 0 < rows.left = omega (arith, c.requires.left, left) in
    let slots = at_ok c.add.result c.add.ensures.slots done some in
    let starts = at_ok c.add.result c.add.ensures.starts done some in
    let ends = at_ok c.add.result c.add.ensures.ends done some in
    let last : c.slot_at-slot.result ≡ length rows.starts =
    c.slot_at-slot.ensures.slot ∙ ap (λ xs. get_or xs c.count-place.result 0) slots
    ∙ get_or_push rows.slots (length rows.starts) 0 c.count-place.result (omega (arith, c.count-place.ensures.count, c.count-place.ensures.placed)) in
    let below_ends : All (λ s. s < length rows.ends) rows.slots = λ k d h. omega (arith, c.count-place.ensures.below k d h, c.count-place.ensures.ends) in
    let others : filter (is_other c.slot_at-slot.result) c.add.new.self.slots ≡ rows.slots =
    ap (λ s. filter (is_other s) c.add.new.self.slots) last ∙ ap (filter (is_other (length rows.starts))) slots
    ∙ others_left rows.slots (length rows.starts) c.count-place.ensures.below in
    subst (λ left. AreOrders c.add.new.self.starts c.add.new.self.ends left c.self.inside.orders.by_start c.self.inside.orders.by_end) (sym others)
    (orders_alike rows.starts rows.ends c.add.new.self.starts c.add.new.self.ends rows.slots c.self.inside.orders.by_start c.self.inside.orders.by_end
    c.self.invariant.orders
    (subst (λ keys. All (λ s. get_or keys s 0 ≡ get_or rows.starts s 0) rows.slots) (sym starts) (numbers_more rows.starts _ rows.slots c.count-place.ensures.below))
    (subst (λ keys. All (λ s. get_or keys s 0 ≡ get_or rows.ends s 0) rows.slots) (sym ends) (numbers_more rows.ends _ rows.slots below_ends)))

pub enter-requires-2-clause-few : goal.enter-requires-2-clause-few
enter-requires-2-clause-few c =
    let rows = c.self.inside.rows in
    omega (arith, c.self.invariant.tally.counted, kind_few is_paragraph_row rows.kept, c.requires.bound, ap (λ seen. length seen.kept) c.self.view_is)

pub enter-requires-2-clause-composing_room : goal.enter-requires-2-clause-composing_room
enter-requires-2-clause-composing_room c =
    let rows = c.self.inside.rows in
    let long : length rows.slots ≡ length rows.kept = c.count-place.ensures.placed in
    omega (
      arith,
      c.requires.spare,
      ap (λ seen. seen.spare) c.self.view_is,
      ap length c.self.invariant.tally.composed,
      slots_few is_composing_row rows.kept rows.slots long,
    )

pub enter-requires-2-clause-seats_room : goal.enter-requires-2-clause-seats_room
enter-requires-2-clause-seats_room c =
    let rows = c.self.inside.rows in
    let long : length rows.slots ≡ length rows.kept = c.count-place.ensures.placed in
    omega (
      arith,
      c.requires.spare,
      ap (λ seen. seen.spare) c.self.view_is,
      ap length c.self.invariant.tally.seated,
      slots_few is_seat_row rows.kept rows.slots long,
    )

pub invariant_of-self : goal.invariant_of-self
invariant_of-self c =
    let rows = c.self.inside.rows in
    let more = c.add.new.self in
    let spare = ap (λ seen. seen.spare) c.self.view_is in
    let left = ap (λ seen. seen.left) c.self.view_is in
    let done = c.add.ensures.within (omega (arith, c.requires.spare, spare)) in
    let some : 0 < rows.left = omega (arith, c.requires.left, left) in
    let kept = at_ok c.add.result c.add.ensures.ok done in
    let slots = at_ok c.add.result c.add.ensures.slots done some in
    let count = c.count-place.ensures.count in
    let long : length rows.slots ≡ length rows.kept = c.count-place.ensures.placed in
    let last : c.slot_at-slot.result ≡ length rows.starts =
    c.slot_at-slot.ensures.slot ∙ ap (λ xs. get_or xs c.count-place.result 0) slots
    ∙ get_or_push rows.slots (length rows.starts) 0 c.count-place.result (omega (arith, count, long)) in
    let added = row_added rows.kept more.kept _ c.kept.result c.count-place.result kept count c.kept.ensures.row in
    let span = span_of c.args.row.now in
    let behind : All (λ other. other < c.slot_at-slot.result) rows.slots = subst (λ s. All (λ other. other < s) rows.slots) (sym last) c.count-place.ensures.below in
    let listed : more.slots ≡ rows.slots ++ c.slot_at-slot.result ∷ [] = slots ∙ ap (λ s. rows.slots ++ s ∷ []) (sym last) in
    let longer : length more.kept ≡ length rows.kept + 1 = ap length kept ∙ length-append rows.kept _ in
    record {
      orders = c.enter.ensures.orders;
      named = subst (λ ids. AreNamed ids more.slots c.insert.new.self) (sym (ap ids_of kept ∙ map-append (λ (row : KeptRow). row.id) rows.kept (kept_span rows.gap rows.room span ∷ [])))
          (subst (λ s. AreNamed (ids_of rows.kept ++ c.args.row.now.id ∷ []) s c.insert.new.self) (sym listed)
          (c.insert.ensures.named (ids_of rows.kept) rows.slots c.self.invariant.named));
      distinct = subst HaveDistinctIds (sym kept) (ids_more rows.gap rows.room rows.kept span
          (ap (λ seen. is_attached c.args.row.now.id (spans_of seen)) c.self.view_is ∙ c.requires.id) c.self.invariant.distinct);
      tally = subst (λ rows_kept. IsTally rows_kept more.slots c.enter-2.new.self.paragraphs c.enter-2.new.self.composing.slots c.enter-2.new.self.seats.slots) (sym added)
          (subst (λ s. IsTally (rows.kept ++ c.kept.result ∷ []) s c.enter-2.new.self.paragraphs c.enter-2.new.self.composing.slots c.enter-2.new.self.seats.slots) (sym listed)
          (c.enter-2.ensures.tally rows.kept rows.slots long behind c.self.invariant.tally));
      composing_places = omega (arith, longer, c.requires.spare, spare, c.enter-2.ensures.composing_places);
      seat_places = omega (arith, longer, c.requires.spare, spare, c.enter-2.ensures.seats_places);
    }

pub returns-clause-spare : goal.returns-clause-spare
returns-clause-spare c =
    let rows = c.self.inside.rows in
    let n = c.args.self.now.spare in
    let spare = ap (λ seen. seen.spare) c.self.view_is in
    let had = room_each n rows c.self.inside.ids c.self.inside.orders.by_start c.self.inside.orders.by_end c.self.inside.tally.composing c.self.inside.tally.seats
    (omega (arith, spare)) in
    let done = c.add.ensures.within (omega (arith, c.requires.spare, had.kept)) in
    let kept = at_ok c.add.result c.add.ensures.ok done in
    let longer : length c.add.new.self.kept ≡ length rows.kept + 1 = ap length kept ∙ length-append rows.kept _ in
    let left = room_all (n - 1) c.add.new.self c.insert.new.self c.enter.new.self.by_start c.enter.new.self.by_end
    c.enter-2.new.self.composing c.enter-2.new.self.seats
    (record {
      kept = omega (arith, had.kept, c.add.ensures.spare);
      named = omega (arith, had.named, c.insert.ensures.spare);
      starting = omega (arith, had.starting, c.enter.ensures.start_spare);
      ending = omega (arith, had.ending, c.enter.ensures.end_spare);
      composed = omega (arith, had.composed, c.enter-2.ensures.composing_places, longer);
      seated = omega (arith, had.seated, c.enter-2.ensures.seats_places, longer);
    }) in
    omega (arith, left)
