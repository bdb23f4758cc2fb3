-- The counts behind the slot fall.
use Rattle.std.proofs.Common.{◌≡◌, ◌+◌, ◌*◌, ◌/◌, ℕ, true, false, List, min, length, arith, ap, sym, subst, ◌∙◌}
use Rattle.std.proofs.lemmas.List.{length-set}
use Rattle.slot_ranks.specs.Slots.{Slots, is_live}
use Rattle.slot_ranks.specs.Ranks.{IsLowered}
use Rattle.slot_ranks.proofs.Tables.{dead_count, dead_ranks, some_ahead, some_in_block, written_back}
use Rattle.slot_ranks.proofs.ranks.SlotRanks.clear_inside.Goals as goal

pub lower_slots-requires-clause-some : goal.lower_slots-requires-clause-some
lower_slots-requires-clause-some c = λ at low high.
    let live = c.self.inside.live.items in
    let was = subst (λ (s : Slots). is_live s.live c.args.slot ≡ true) (sym c.self.view_is) c.requires.live in
    let n : c.len.result ≡ length live = omega arith in
    let end = c.min-end.ensures in
    rw c.deref_mut.ensures.value
    (some_in_block live c.self.inside.inner.items c.self.inside.before.items c.self.invariant.ranks c.args.slot was at (omega arith)
    (grind arith) (grind arith))

pub lower_blocks-requires-clause-some : goal.lower_blocks-requires-clause-some
lower_blocks-requires-clause-some c = λ at low high.
    let live = c.self.inside.live.items in
    let was = subst (λ (s : Slots). is_live s.live c.args.slot ≡ true) (sym c.self.view_is) c.requires.live in
    let long = ap length c.deref_mut-2.ensures.value in
    rw c.deref_mut-2.ensures.value
    (some_ahead live c.self.inside.inner.items c.self.inside.before.items c.self.invariant.ranks c.args.slot was at low (omega arith))

pub overflow_sub-self : goal.overflow_sub-self
overflow_sub-self c =
    let live = c.self.inside.live.items in
    let was = subst (λ (s : Slots). is_live s.live c.args.slot ≡ true) (sym c.self.view_is) c.requires.live in
    let falls = dead_count live c.self.inside.inner.items c.self.inside.before.items c.self.invariant.ranks c.args.slot was in
    let count = c.self.invariant.count in
    omega arith

pub invariant_of-self : goal.invariant_of-self
invariant_of-self c =
    let live = c.self.inside.live.items in
    let inner = c.self.inside.inner.items in
    let before = c.self.inside.before.items in
    let slot = c.args.slot in
    let was = subst (λ (s : Slots). is_live s.live slot ≡ true) (sym c.self.view_is) c.requires.live in
    let n : c.len.result ≡ length live = omega arith in
    let end : c.min-end.result ≡ min (length live) (64 * (slot / 64) + 64) = c.min-end.ensures ∙ ap (λ k. min k (64 * (slot / 64) + 64)) n in
    let inner_is = c.deref_mut.ensures.value in
    let before_is = c.deref_mut-2.ensures.value in
    let inner_long : length c.lower_slots.new.inner ≡ length inner = c.lower_slots.auto.inner ∙ ap length inner_is in
    let before_long : length c.lower_blocks.new.before ≡ length before = c.lower_blocks.auto.before ∙ ap length before_is in
    let in_block = subst (λ (xs : List ℕ). IsLowered xs c.lower_slots.new.inner (slot + 1) c.min-end.result) inner_is c.lower_slots.ensures in
    let ahead = subst (λ (xs : List ℕ). IsLowered xs c.lower_blocks.new.before (slot / 64 + 1) (length xs)) before_is c.lower_blocks.ensures in
    let falls = dead_count live inner before c.self.invariant.ranks slot was in
    let count = c.self.invariant.count in
    let long = length-set live slot false in
    record {
      ranks = rw (
        written_back inner c.lower_slots.new.inner c.self.inside.inner.len inner_long (omega arith),
        written_back before c.lower_blocks.new.before c.self.inside.before.len before_long (omega arith),
      )
          (dead_ranks live inner before c.self.invariant.ranks slot was c.lower_slots.new.inner c.lower_blocks.new.before c.min-end.result end
          inner_long before_long in_block ahead);
      count = omega arith;
      few = let few = c.self.invariant.few in omega arith;
    }
