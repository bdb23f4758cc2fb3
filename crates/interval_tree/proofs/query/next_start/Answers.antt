-- The first number behind the place is that of the next start.
use Rattle.std.proofs.Common.{◌≡◌, ◌<◌, ◌≤◌, min, get_or, true, sym, ap, ◌∙◌, subst, arith}
use Rattle.std.specs.List.{All, concat}
use Rattle.std.specs.List.Sorted.{IsNonDecreasingBy}
use Rattle.std.proofs.lemmas.List.Sorted.{All-permutation}
use Rattle.slot_ranks.specs.Slots.{is_among}
use Rattle.span_order.specs.Ranked.{rank_in}
use Rattle.interval_tree.specs.Walk.{IsFirst, IsStop, nearest}
use Rattle.interval_tree.proofs.QueryEdges.{first_nearest, none_nearest, read_start, start_numbers, start_places}
use Rattle.interval_tree.proofs.QueryPlaces.{AreSlots, all_among}
use Rattle.interval_tree.proofs.query.next_start.Goals as goal

pub first_behind-requires-clause-rising : goal.first_behind-requires-clause-rising
first_behind-requires-clause-rising c =
    subst (λ keys. IsNonDecreasingBy (rank_in keys) (concat c.args.by_start.now.blocks)) (sym c.starts.ensures) c.requires.rising

pub first_behind-requires-clause-below : goal.first_behind-requires-clause-below
first_behind-requires-clause-below c =
    All-permutation (λ slot. slot < 4294967295) c.args.rows.now.slots (concat c.args.by_start.now.blocks) c.requires.all
    (λ k d within. omega (arith, c.count-count.ensures.below k d within, c.count-count.ensures.few))

pub read_in-requires : goal.read_in-requires
read_in-requires c =
    let first : IsFirst c.starts.result.now (concat c.args.by_start.now.blocks) c.stop_of-stop.result c.in-Some.slot = c.in-Some.ensures.some in
    subst (λ slot. is_among c.args.rows.now.slots slot ≡ true) first.there.2
    (All-permutation (λ slot. is_among c.args.rows.now.slots slot ≡ true) c.args.rows.now.slots (concat c.args.by_start.now.blocks) c.requires.all
    (all_among c.args.rows.now.slots) first.there.0 c.in-Some.slot first.there.1)

pub returns-in-Some : goal.returns-in-Some
returns-in-Some c =
    let known = c.count-count.ensures in
    let rows = c.args.rows.now in
    let order = concat c.args.by_start.now.blocks in
    let slots : AreSlots rows = record { numbers = known.numbers; rising = known.rising; placed = known.placed; starting = known.start_numbers; ending = known.end_numbers } in
    let stop : IsStop rows.gap rows.room c.args.start c.stop_of-stop.result =
    subst (λ gap. IsStop gap rows.room c.args.start c.stop_of-stop.result) c.gap.ensures
    (subst (λ room. IsStop c.gap.result room c.args.start c.stop_of-stop.result) c.room.ensures c.stop_of-stop.ensures) in
    let first : IsFirst rows.starts order c.stop_of-stop.result c.in-Some.slot =
    subst (λ keys. IsFirst keys order c.stop_of-stop.result c.in-Some.slot) c.starts.ensures c.in-Some.ensures.some in
    c.min.ensures
    ∙ ap (λ place. min place c.args.limit) (read_start rows slots c.in-Some.slot c.read_in.result c.read_in.ensures.order c.read_in.ensures.within c.read_in.ensures.span)
    ∙ first_nearest rows.gap rows.room c.args.start c.stop_of-stop.result c.args.limit rows.starts rows.slots order c.requires stop (start_numbers rows slots) c.in-Some.slot first
    ∙ ap (nearest c.args.start c.args.limit) (start_places rows slots)

pub returns-in-None : goal.returns-in-None
returns-in-None c =
    let known = c.count-count.ensures in
    let rows = c.args.rows.now in
    let order = concat c.args.by_start.now.blocks in
    let slots : AreSlots rows = record { numbers = known.numbers; rising = known.rising; placed = known.placed; starting = known.start_numbers; ending = known.end_numbers } in
    let stop : IsStop rows.gap rows.room c.args.start c.stop_of-stop.result =
    subst (λ gap. IsStop gap rows.room c.args.start c.stop_of-stop.result) c.gap.ensures
    (subst (λ room. IsStop c.gap.result room c.args.start c.stop_of-stop.result) c.room.ensures c.stop_of-stop.ensures) in
    let under : All (λ slot. get_or rows.starts slot 0 ≤ c.stop_of-stop.result) order =
    subst (λ keys. All (λ slot. get_or keys slot 0 ≤ c.stop_of-stop.result) order) c.starts.ensures c.in-None.ensures.none in
    none_nearest rows.gap rows.room c.args.start c.stop_of-stop.result c.args.limit rows.starts rows.slots order c.requires stop (start_numbers rows slots) under
    ∙ ap (nearest c.args.start c.args.limit) (start_places rows slots)
