-- All slots are live.
use Rattle.std.proofs.Common.{◌≡◌, ◌+◌, ◌/◌, ◌%◌, true, min, length, take, replicate, vec_len, arith, ap, ◌∙◌}
use Rattle.std.specs.List.{range_with_len}
use Rattle.std.proofs.lemmas.List.{length-replicate, length-take-le}
use Rattle.slot_ranks.specs.Slots.{Slots, line, rank}
use Rattle.slot_ranks.specs.Ranks.{blocks_for}
use Rattle.slot_ranks.proofs.Below.{rank_bound}
use Rattle.slot_ranks.proofs.Laws.{line_whole}
use Rattle.slot_ranks.proofs.Tables.{blocks_ceil, rank_whole, whole_ranks, written_back}
use Rattle.slot_ranks.proofs.ranks.SlotRanks.squeeze.Goals as goal

pub invariant_of-self : goal.invariant_of-self
invariant_of-self c =
    let live = c.self.inside.live.items in
    let inner = c.self.inside.inner.items in
    let before = c.self.inside.before.items in
    let n = length (line live) in
    let count = c.self.invariant.count in
    let slots = c.self.invariant.ranks.slots in
    let blocks = c.self.invariant.ranks.blocks in
    let few = c.self.invariant.few in
    let bound = rank_bound live (length live) in
    let left : vec_len c.truncate.new.self ≡ n = omega arith in
    let filled = c.fill.ensures.items (λ y e. e) ∙ ap (λ k. replicate k true) left in
    let inner_new = c.count_whole_slots.new.inner in
    let before_new = c.count_whole_blocks.new.before in
    let cut = c.truncate-2.ensures.items ∙ ap (λ k. take k inner) count in
    let cut_long : length c.truncate-2.new.self.items ≡ n = ap length cut ∙ length-take-le n inner (omega arith) in
    let needed : c.div_ceil.result ≡ blocks_for n = c.div_ceil.ensures ∙ ap (λ k. k / 64 + min 1 (k % 64)) count ∙ blocks_ceil n in
    let cut_blocks = c.truncate-3.ensures.items ∙ ap (λ k. take k before) needed in
    let blocks_long : length c.truncate-3.new.self.items ≡ blocks_for n = ap length cut_blocks ∙ length-take-le (blocks_for n) before (omega arith) in
    let inner_long : length inner_new ≡ length c.truncate-2.new.self.items = c.count_whole_slots.auto.inner ∙ ap length c.deref_mut.ensures.value in
    let before_long : length before_new ≡ length c.truncate-3.new.self.items = c.count_whole_blocks.auto.before ∙ ap length c.deref_mut-2.ensures.value in
    let back_inner = written_back c.truncate-2.new.self.items inner_new c.truncate-2.new.self.len inner_long (omega arith) in
    let back_before = written_back c.truncate-3.new.self.items before_new c.truncate-3.new.self.len before_long (omega arith) in
    let whole = rank_whole n n (omega arith) in
    let long = length-replicate n true in
    let all = ap (rank (replicate n true)) long in
    record {
      ranks = rw (filled, back_inner, back_before) (whole_ranks n inner_new before_new (inner_long ∙ cut_long) (before_long ∙ blocks_long)
          (λ slot h. c.count_whole_slots.ensures slot (let e = ap length c.deref_mut.ensures.value in omega arith))
          (λ block h. c.count_whole_blocks.ensures block (let e = ap length c.deref_mut-2.ensures.value in omega arith)));
      count = rw filled (omega arith);
      few = rw filled (omega arith);
    }

pub returns-clause-live : goal.returns-clause-live
returns-clause-live c =
    let live = c.self.inside.live.items in
    let count = c.self.invariant.count in
    let bound = rank_bound live (length live) in
    let left : vec_len c.truncate.new.self ≡ length (line live) = omega arith in
    c.fill.ensures.items (λ y e. e) ∙ ap (λ k. replicate k true) left
    ∙ ap (λ (s : Slots). replicate (length (line s.live)) true) c.self.view_is

pub returns-clause-line : goal.returns-clause-line
returns-clause-line c =
    let live = c.self.inside.live.items in
    let count = c.self.invariant.count in
    let bound = rank_bound live (length live) in
    let left : vec_len c.truncate.new.self ≡ length (line live) = omega arith in
    ap line (c.fill.ensures.items (λ y e. e) ∙ ap (λ k. replicate k true) left) ∙ line_whole (length (line live))
    ∙ ap (λ (s : Slots). range_with_len 0 (length (line s.live))) c.self.view_is
