-- The slot stands where its rank parts all.
use Rattle.std.proofs.Common.{◌≡◌, ◌++◌, [], ℕ, List, ◌<◌, ◌≤◌, ◌+◌, length, take, drop, get_or, ap, sym, ◌∙◌, arith, subst}
use Rattle.std.specs.List.{All, Contains, concat}
use Rattle.std.specs.List.Sorted.{IsNonDecreasingBy}
use Rattle.std.proofs.lemmas.List.Elements.{All-nil}
use Rattle.span_order.specs.Blocks.{IsPlace, number_of}
use Rattle.span_order.specs.Ranked.{IsParted, rank_in, rank_of}
use Rattle.span_order.specs.Topped.{ToppedRow}
use Rattle.span_order.specs.declared.places.Place.{Place}
use Rattle.span_order.proofs.Entries.{place_within}
use Rattle.span_order.proofs.PlacedSlots.{All-spliced, StandsAt, stands_at, taken}
use Rattle.span_order.proofs.Splices.{length_spliced}
use Rattle.span_order.proofs.topped.ToppedOrder.take_out.Goals as goal

-- what the search found in the order that the value has
stands : (keys : List ℕ) (slot : ℕ) (from : Place) (inside now : ToppedRow) → inside ≡ now → IsPlace inside.blocks from
    → (IsNonDecreasingBy (rank_in keys) (concat inside.blocks)
    → IsParted keys (concat inside.blocks) (rank_of (get_or keys slot 0) slot) (number_of inside.blocks from))
    → IsNonDecreasingBy (rank_in keys) (concat now.blocks) → slot < 4294967296 → length keys ≤ 4294967296
    → All (λ other. other < length keys) (concat now.blocks) → Contains (concat now.blocks) slot
    → StandsAt (concat now.blocks) slot (number_of now.blocks from)
stands keys slot from inside now is place parted rising small few all there =
    let here = subst (λ (row : ToppedRow). IsPlace row.blocks from) is place in
    let then = subst (λ (row : ToppedRow). IsNonDecreasingBy (rank_in keys) (concat row.blocks)
    → IsParted keys (concat row.blocks) (rank_of (get_or keys slot 0) slot) (number_of row.blocks from)) is parted in
    stands_at keys (concat now.blocks) slot (number_of now.blocks from) rising (place_within now.blocks from here) small few all there (then rising)

pub forward-to-requires-clause-some : goal.forward-to-requires-clause-some
forward-to-requires-clause-some c =
    let found = stands c.args.starts.now c.args.slot c.seek-from.result _ c.args.self.now c.self.view_is c.seek-from.ensures.place
    c.seek-from.ensures.parted c.requires.rising c.ranges.slot.fits c.requires.few c.requires.starts c.requires.there in
    subst (λ (row : ToppedRow). number_of row.blocks c.seek-from.result < length (concat row.blocks)) (sym c.self.view_is) found.within

pub splice-requires-clause-ends : goal.splice-requires-clause-ends
splice-requires-clause-ends c =
    All-spliced (λ slot. slot < length c.args.ends.now) c.args.self.now.blocks c.seek-from.result c.forward-to.result []
    c.requires.ends (All-nil (λ slot. slot < length c.args.ends.now))

pub returns-clause-all : goal.returns-clause-all
returns-clause-all c =
    let bs = c.args.self.now.blocks in
    let from = c.seek-from.result in
    let found = stands c.args.starts.now c.args.slot from _ c.args.self.now c.self.view_is c.seek-from.ensures.place
    c.seek-from.ensures.parted c.requires.rising c.ranges.slot.fits c.requires.few c.requires.starts c.requires.there in
    let next = subst (λ (row : ToppedRow). number_of row.blocks c.forward-to.result ≡ number_of row.blocks from + 1) c.self.view_is c.forward-to.ensures.number in
    c.splice.ensures.all ∙ ap (λ n. take (number_of bs from) (concat bs) ++ drop n (concat bs)) next
    ∙ taken (concat bs) c.args.slot (number_of bs from) found c.requires.apart

pub returns-clause-spare : goal.returns-clause-spare
returns-clause-spare c =
    let bs = c.args.self.now.blocks in
    let from = c.seek-from.result in
    let to = c.forward-to.result in
    let low = place_within bs from (subst (λ (row : ToppedRow). IsPlace row.blocks from) c.self.view_is c.seek-from.ensures.place) in
    let high = place_within bs to (subst (λ (row : ToppedRow). IsPlace row.blocks to) c.self.view_is c.forward-to.ensures.place) in
    let next = subst (λ (row : ToppedRow). number_of row.blocks to ≡ number_of row.blocks from + 1) c.self.view_is c.forward-to.ensures.number in
    let long = length_spliced bs from to [] low high in
    let all = ap length c.splice.ensures.all in
    let spare = c.splice.ensures.spare in
    omega arith
