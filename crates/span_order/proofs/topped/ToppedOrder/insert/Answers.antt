-- The slot goes where its rank parts the others.
use Rattle.std.proofs.Common.{◌∷◌, [], ℕ, List, ◌<◌, length, get_or, sym, subst}
use Rattle.std.specs.List.{concat}
use Rattle.std.specs.List.Sorted.{IsNonDecreasingBy}
use Rattle.std.proofs.lemmas.List.Sorted.{IsPermutation-insert}
use Rattle.span_order.specs.Blocks.{IsPlace, number_of}
use Rattle.span_order.specs.Ranked.{IsParted, rank_in, rank_of}
use Rattle.span_order.specs.Topped.{ToppedRow}
use Rattle.span_order.proofs.Entries.{place_within}
use Rattle.span_order.proofs.PlacedSlots.{All-one, All-spliced, placed_rises}
use Rattle.span_order.proofs.topped.ToppedOrder.insert.Goals as goal

pub splice-requires-clause-ends : goal.splice-requires-clause-ends
splice-requires-clause-ends c =
    All-spliced (λ slot. slot < length c.args.ends.now) c.args.self.now.blocks c.seek-at.result c.seek-at.result (c.args.slot ∷ [])
    c.requires.ends (All-one (λ slot. slot < length c.args.ends.now) c.args.slot c.requires.end)

pub returns-clause-all : goal.returns-clause-all
returns-clause-all c =
    rw c.splice.ensures.all (IsPermutation-insert (concat c.args.self.now.blocks) (number_of c.args.self.now.blocks c.seek-at.result) c.args.slot)

pub returns-clause-rising : goal.returns-clause-rising
returns-clause-rising c =
    let keys = c.args.starts.now in
    let bs = c.args.self.now.blocks in
    let at = c.seek-at.result in
    let place = subst (λ (row : ToppedRow). IsPlace row.blocks at) c.self.view_is c.seek-at.ensures.place in
    let parted = subst (λ (row : ToppedRow). IsNonDecreasingBy (rank_in keys) (concat row.blocks)
    → IsParted keys (concat row.blocks) (rank_of (get_or keys c.args.slot 0) c.args.slot) (number_of row.blocks at)) c.self.view_is c.seek-at.ensures.parted in
    subst (λ (slots : List ℕ). IsNonDecreasingBy (rank_in keys) slots) (sym c.splice.ensures.all)
    (placed_rises keys (concat bs) c.args.slot (number_of bs at) c.requires.rising (place_within bs at place) (parted c.requires.rising))
