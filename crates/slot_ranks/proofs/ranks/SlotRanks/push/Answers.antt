-- The new slot has the count behind it.
use Rattle.std.proofs.Common.{◌≡◌, ◌<◌, ◌-◌, ◌*◌, ◌/◌, ◌++◌, ◌∷◌, [], true, length, arith, ap, sym, subst, ◌∙◌}
use Rattle.std.proofs.lemmas.List.{length_push}
use Rattle.slot_ranks.specs.Slots.{Slots, line}
use Rattle.slot_ranks.specs.Ranks.{next_blocks, rank_within}
use Rattle.slot_ranks.proofs.Below.{rank_bound, ranks_rise}
use Rattle.slot_ranks.proofs.Laws.{line_push}
use Rattle.slot_ranks.proofs.Tables.{next_ranks, next_read}
use Rattle.slot_ranks.proofs.ranks.SlotRanks.push.Goals as goal

pub overflow_sub-inner : goal.overflow_sub-inner
overflow_sub-inner c =
    let live = c.self.inside.live.items in
    let inner = c.self.inside.inner.items in
    let before = c.self.inside.before.items in
    let ranks = c.self.invariant.ranks in
    let n : c.len-slot.result ≡ length live = omega arith in
    let read = next_read live inner before ranks c.self.inside.count c.len-slot.result c.index.result.now c.push_block.new.before.items
    c.self.invariant.count n c.push_block.ensures.blocks c.index.ensures in
    let rise = ranks_rise live (64 * (length live / 64)) (length live) (omega arith) in
    let count = c.self.invariant.count in
    omega arith

pub overflow_cast-inner : goal.overflow_cast-inner
overflow_cast-inner c =
    let live = c.self.inside.live.items in
    let inner = c.self.inside.inner.items in
    let before = c.self.inside.before.items in
    let ranks = c.self.invariant.ranks in
    let n : c.len-slot.result ≡ length live = omega arith in
    let read = next_read live inner before ranks c.self.inside.count c.len-slot.result c.index.result.now c.push_block.new.before.items
    c.self.invariant.count n c.push_block.ensures.blocks c.index.ensures in
    let rise = ranks_rise live (64 * (length live / 64)) (length live) (omega arith) in
    let count = c.self.invariant.count in
    omega arith

pub overflow_add-self : goal.overflow_add-self
overflow_add-self c =
    let live = c.self.inside.live.items in
    let bound = rank_bound live (length live) in
    let few = subst (λ (s : Slots). length s.live < 4294967295) (sym c.self.view_is) c.requires.few in
    let count = c.self.invariant.count in
    omega arith

pub invariant_of-self : goal.invariant_of-self
invariant_of-self c =
    let live = c.self.inside.live.items in
    let inner = c.self.inside.inner.items in
    let before = c.self.inside.before.items in
    let ranks = c.self.invariant.ranks in
    let n : c.len-slot.result ≡ length live = omega arith in
    let read = next_read live inner before ranks c.self.inside.count c.len-slot.result c.index.result.now c.push_block.new.before.items
    c.self.invariant.count n c.push_block.ensures.blocks c.index.ensures in
    let grown = c.push_block.ensures.blocks ∙ ap (λ k. next_blocks k c.self.inside.count before) n in
    let count = c.self.invariant.count in
    let counted : c.self.inside.count - c.index.result.now ≡ rank_within live (length live) = omega arith in
    let more = ap length (line_push live) ∙ length_push (line live) (length live) in
    let long = length_push live true in
    let few = subst (λ (s : Slots). length s.live < 4294967295) (sym c.self.view_is) c.requires.few in
    record {
      ranks = rw (c.push_within-2.ensures.items, c.push_within.ensures.items, grown)
          (next_ranks live inner before ranks c.self.inside.count (c.self.inside.count - c.index.result.now) c.self.invariant.count counted);
      count = rw c.push_within-2.ensures.items (omega arith);
      few = rw c.push_within-2.ensures.items (omega arith);
    }

pub returns-clause-line : goal.returns-clause-line
returns-clause-line c =
    ap line c.push_within-2.ensures.items ∙ line_push c.self.inside.live.items
    ∙ ap (λ (s : Slots). line s.live ++ length s.live ∷ []) c.self.view_is
