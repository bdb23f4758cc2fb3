-- The last block, and the last slot of it, that so many stand before.
use Rattle.std.proofs.Common.{◌≡◌, ◌<◌, ◌≤◌, ◌+◌, ◌-◌, ◌*◌, ℕ, List, min, length, take, drop, get_or, arith, ap, sym, subst, ◌∙◌}
use Rattle.std.proofs.lemmas.List.{get_or_read}
use Rattle.slot_ranks.specs.Slots.{Slots, line}
use Rattle.slot_ranks.proofs.Laws.{IsRanked, slot_at_rank}
use Rattle.slot_ranks.proofs.Tables.{block_first, block_least, blocks_rise, found, part_least, part_rises}
use Rattle.slot_ranks.proofs.ranks.SlotRanks.slot_at.Goals as goal

pub block_at-block-requires-clause-first : goal.block_at-block-requires-clause-first
block_at-block-requires-clause-first c =
    let within = subst (λ (s : Slots). c.args.place < length (line s.live)) (sym c.self.view_is) c.requires in
    rw c.deref.ensures.value (block_first c.self.inside.live.items c.self.inside.inner.items c.self.inside.before.items c.self.invariant.ranks c.args.place within)

pub block_at-block-requires-clause-least : goal.block_at-block-requires-clause-least
block_at-block-requires-clause-least c =
    let within = subst (λ (s : Slots). c.args.place < length (line s.live)) (sym c.self.view_is) c.requires in
    rw c.deref.ensures.value (block_least c.self.inside.live.items c.self.inside.inner.items c.self.inside.before.items c.self.invariant.ranks c.args.place within)

pub block_at-block-requires-clause-rising : goal.block_at-block-requires-clause-rising
block_at-block-requires-clause-rising c =
    rw c.deref.ensures.value (blocks_rise c.self.inside.live.items c.self.inside.inner.items c.self.inside.before.items c.self.invariant.ranks)

pub slot_within-requires-clause-least : goal.slot_within-requires-clause-least
slot_within-requires-clause-least c =
    let live = c.self.inside.live.items in
    let inner = c.self.inside.inner.items in
    let before = c.self.inside.before.items in
    let block = c.block_at-block.result in
    let n : c.len.result ≡ length live = omega arith in
    let to : c.min-to.result ≡ min (length live) (64 * block + 64) = c.min-to.ensures ∙ ap (λ k. min k (64 * block + 64)) n in
    let blocks = ap length c.deref.ensures.value in
    let inside : block < length before = omega arith in
    rw c.deref-2.ensures.value (part_least live inner before c.self.invariant.ranks block c.min-to.result to inside (c.args.place - c.index.result.now))

pub slot_within-requires-clause-rising : goal.slot_within-requires-clause-rising
slot_within-requires-clause-rising c =
    let live = c.self.inside.live.items in
    let inner = c.self.inside.inner.items in
    let before = c.self.inside.before.items in
    let block = c.block_at-block.result in
    let n : c.len.result ≡ length live = omega arith in
    let to : c.min-to.result ≡ min (length live) (64 * block + 64) = c.min-to.ensures ∙ ap (λ k. min k (64 * block + 64)) n in
    let blocks = ap length c.deref.ensures.value in
    let inside : block < length before = omega arith in
    rw c.deref-2.ensures.value (part_rises live inner before c.self.invariant.ranks block c.min-to.result to inside)

pub returns : goal.returns
returns c =
    let live = c.self.inside.live.items in
    let inner = c.self.inside.inner.items in
    let before = c.self.inside.before.items in
    let block = c.block_at-block.result in
    let n : c.len.result ≡ length live = omega arith in
    let to : c.min-to.result ≡ min (length live) (64 * block + 64) = c.min-to.ensures ∙ ap (λ k. min k (64 * block + 64)) n in
    let blocks = ap length c.deref.ensures.value in
    let inside : block < length before = omega arith in
    let at = c.slot_within.result in
    let within = subst (λ (s : Slots). c.args.place < length (line s.live)) (sym c.self.view_is) c.requires in
    let part = λ (xs : List ℕ). take (c.min-to.result - 64 * block) (drop (64 * block) xs) in
    let read : c.index.result.now ≡ get_or before block 0 = get_or_read before block c.index.result.now inside c.index.ensures 0 in
    let reached = subst (λ (xs : List ℕ). get_or xs block 0 ≤ c.args.place) c.deref.ensures.value c.block_at-block.ensures.from in
    let next_block = subst (λ (xs : List ℕ). (b : ℕ) → block < b → b < length xs → c.args.place < get_or xs b 0) c.deref.ensures.value
    c.block_at-block.ensures.last in
    let short = subst (λ (xs : List ℕ). at < length (part xs)) c.deref-2.ensures.value c.slot_within.ensures.within in
    let here = subst (λ (k : ℕ). get_or (part inner) at 0 ≤ c.args.place - k) read
    (subst (λ (xs : List ℕ). get_or (part xs) at 0 ≤ c.args.place - c.index.result.now) c.deref-2.ensures.value c.slot_within.ensures.from) in
    let next = subst (λ (j : ℕ). (k : ℕ) → at < k → k < length (part inner) → c.args.place - j < get_or (part inner) k 0) read
    (subst (λ (xs : List ℕ). (k : ℕ) → at < k → k < length (part xs) → c.args.place - c.index.result.now < get_or (part xs) k 0)
    c.deref-2.ensures.value c.slot_within.ensures.last) in
    let is = found live inner before c.self.invariant.ranks block c.min-to.result to inside c.args.place at within reached next_block short here next in
    let seen = subst (λ (s : Slots). IsRanked s.live c.args.place (64 * block + at)) c.self.view_is is in
    record {
      slot = sym (slot_at_rank c.args.self.now.live (64 * block + at) seen.is) ∙ ap (λ r. get_or (line c.args.self.now.live) r 0) seen.at;
      live = seen.is;
      rank = seen.at;
    }
