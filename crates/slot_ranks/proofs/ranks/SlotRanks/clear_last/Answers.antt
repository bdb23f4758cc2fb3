-- The counts of the slots before it stay.
use Rattle.std.proofs.Common.{◌≡◌, ◌<◌, ◌+◌, ◌-◌, ◌/◌, ◌%◌, min, true, length, take, arith, ap, sym, subst, ◌∙◌}
use Rattle.std.proofs.lemmas.List.{length-take-le}
use Rattle.slot_ranks.specs.Slots.{Slots, is_live}
use Rattle.slot_ranks.specs.Ranks.{blocks_for}
use Rattle.slot_ranks.proofs.Tables.{blocks_ceil, cut_count, cut_ranks}
use Rattle.slot_ranks.proofs.ranks.SlotRanks.clear_last.Goals as goal

pub overflow_sub-self : goal.overflow_sub-self
overflow_sub-self c =
    let live = c.self.inside.live.items in
    let n : c.len-last.result ≡ length live = omega arith in
    let some = subst (λ (s : Slots). 0 < length s.live) (sym c.self.view_is) c.requires.some in
    let was = subst (λ (s : Slots). is_live s.live (length s.live - 1) ≡ true) (sym c.self.view_is) c.requires.live in
    let falls = cut_count live c.self.inside.inner.items c.self.inside.before.items c.self.invariant.ranks (length live - 1) (omega arith) was in
    let count = c.self.invariant.count in
    omega arith

pub invariant_of-self : goal.invariant_of-self
invariant_of-self c =
    let live = c.self.inside.live.items in
    let inner = c.self.inside.inner.items in
    let before = c.self.inside.before.items in
    let last = length live - 1 in
    let some = subst (λ (s : Slots). 0 < length s.live) (sym c.self.view_is) c.requires.some in
    let was = subst (λ (s : Slots). is_live s.live (length s.live - 1) ≡ true) (sym c.self.view_is) c.requires.live in
    let n : c.len-last.result - 1 ≡ last = omega arith in
    let cut = c.truncate.ensures.items ∙ ap (λ k. take k live) n in
    let cut_inner = c.truncate-2.ensures.items ∙ ap (λ k. take k inner) n in
    let blocks : c.div_ceil.result ≡ blocks_for last = c.div_ceil.ensures ∙ ap (λ k. k / 64 + min 1 (k % 64)) n ∙ blocks_ceil last in
    let cut_before = c.truncate-3.ensures.items ∙ ap (λ k. take k before) blocks in
    let falls = cut_count live inner before c.self.invariant.ranks last (omega arith) was in
    let count = c.self.invariant.count in
    let short = length-take-le last live (omega arith) in
    record {
      ranks = rw (cut, cut_inner, cut_before) (cut_ranks live inner before c.self.invariant.ranks last (omega arith));
      count = rw cut (omega arith);
      few = rw cut (let few = c.self.invariant.few in omega arith);
    }
