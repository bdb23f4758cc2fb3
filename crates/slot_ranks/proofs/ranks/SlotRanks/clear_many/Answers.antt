-- What is in no block of these slots stays counted.
use Rattle.std.proofs.Common.{◌≡◌, ◌+◌, ◌/◌, ◌&&◌, ℕ, List, Bool, not, length, get_or, arith, ap, sym, subst, ◌∙◌}
use Rattle.std.specs.List.{filter}
use Rattle.slot_ranks.specs.Slots.{Slots, is_among, is_live, line, rank}
use Rattle.slot_ranks.specs.Ranks.{AreAhead, AreWithin, rank_within}
use Rattle.slot_ranks.proofs.Laws.{line_filtered}
use Rattle.slot_ranks.proofs.Tables.{untouched, written_back}
use Rattle.slot_ranks.proofs.ranks.SlotRanks.clear_many.Goals as goal

pub count_touched-requires-clause-others : goal.count_touched-requires-clause-others
count_touched-requires-clause-others c = λ slot h others.
    let live = c.self.inside.live.items in
    let marked = c.mark_dead.new.live in
    let slots = c.args.slots.now in
    let long : length marked ≡ length live = c.mark_dead.auto.live ∙ ap length c.deref_mut.ensures.value in
    let back = written_back live marked c.self.inside.live.len long (omega arith) in
    let now_is = c.deref.ensures.value ∙ back in
    let now_long = ap length now_is in
    let is = λ (k : ℕ). c.mark_dead.ensures k ∙ ap (λ xs. is_live xs k && not (is_among slots k)) c.deref_mut.ensures.value in
    ap (λ xs. get_or xs slot 0) c.deref_mut-2.ensures.value ∙ c.self.invariant.ranks.within slot (omega arith)
    ∙ sym (untouched live marked slots is slot others) ∙ sym (ap (λ xs. rank_within xs slot) now_is)

pub invariant_of-self : goal.invariant_of-self
invariant_of-self c =
    let live = c.self.inside.live.items in
    let inner = c.self.inside.inner.items in
    let before = c.self.inside.before.items in
    let marked = c.mark_dead.new.live in
    let inner_new = c.count_touched.new.inner in
    let before_new = c.count_blocks-self-inside.new.before in
    let slots = c.self.invariant.ranks.slots in
    let blocks = c.self.invariant.ranks.blocks in
    let long : length marked ≡ length live = c.mark_dead.auto.live ∙ ap length c.deref_mut.ensures.value in
    let inner_long : length inner_new ≡ length inner = c.count_touched.auto.inner ∙ ap length c.deref_mut-2.ensures.value in
    let before_long : length before_new ≡ length before = c.count_blocks-self-inside.auto.before ∙ ap length c.deref_mut-3.ensures.value in
    let back = written_back live marked c.self.inside.live.len long (omega arith) in
    let back_inner = written_back inner inner_new c.self.inside.inner.len inner_long (omega arith) in
    let back_before = written_back before before_new c.self.inside.before.len before_long (omega arith) in
    let then = c.deref.ensures.value ∙ back in
    let last = c.deref-2.ensures.value ∙ back in
    record {
      ranks = rw (back, back_inner, back_before) (record {
        slots = omega arith;
        blocks = before_long ∙ blocks ∙ ap (λ n. (n + 63) / 64) (sym long);
        within = subst (λ (xs : List Bool). AreWithin xs inner_new) then c.count_touched.ensures;
        ahead = subst (λ (xs : List Bool). AreAhead xs before_new) last c.count_blocks-self-inside.ensures.ahead;
      });
      count = rw back (c.count_blocks-self-inside.ensures.count ∙ ap (λ (xs : List Bool). rank xs (length xs)) last);
      few = rw back (let few = c.self.invariant.few in omega arith);
    }

pub returns-clause-line : goal.returns-clause-line
returns-clause-line c =
    let live = c.self.inside.live.items in
    let marked = c.mark_dead.new.live in
    let slots = c.args.slots.now in
    let long : length marked ≡ length live = c.mark_dead.auto.live ∙ ap length c.deref_mut.ensures.value in
    let back = written_back live marked c.self.inside.live.len long (omega arith) in
    let is = λ (k : ℕ). c.mark_dead.ensures k ∙ ap (λ xs. is_live xs k && not (is_among slots k)) c.deref_mut.ensures.value in
    ap line back ∙ line_filtered live marked (λ slot. not (is_among slots slot)) long is
    ∙ ap (λ (s : Slots). filter (λ slot. not (is_among slots slot)) (line s.live)) c.self.view_is
