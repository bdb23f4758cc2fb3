-- The first hit from a place on.
use Rattle.std.proofs.Common.{◌≡◌, ◌<◌, ◌≤◌, ◌+◌, length, get_or, arith, refl, inl, inr, sym, ap, ◌∙◌, subst, ℕ, List}
use Rattle.std.specs.List.{concat}
use Rattle.span_order.specs.Blocks.{number_of, start_of}
use Rattle.span_order.specs.Hits.{is_asked}
use Rattle.span_order.proofs.Entries.{All-block, entry_at, number_within, place_within}
use Rattle.span_order.proofs.HitLists.{all_behind, hits, misses_before, misses_behind, none_picked, passed, picked}
use Rattle.span_order.proofs.pull.next_hit.Goals as goal

pub returns-in_default-clause-none : goal.returns-in_default-clause-none
returns-in_default-clause-none g c =
    let bs = c.args.order.now.blocks in
    let asked = c.args.asked.now in
    none_picked (is_asked asked) (concat bs) (number_of bs c.args.at.now)
    (place_within bs c.args.at.now c.requires.place)
    (λ at low high. misses_before asked.starts.now asked.ends.now asked.bound asked.stop _ (c.in_default.ensures.none at low high))

pub bounds-asked-slot : goal.bounds-asked-slot
bounds-asked-slot g c =
    let bs = c.args.order.now.blocks in
    let found = c.in-Some.found in
    let there = c.in-Some.ensures.there in
    let numbers = All-block (λ slot. (slot < length c.args.asked.now.starts.now) × (slot < length c.args.asked.now.ends.now)) bs found.block there.0 c.requires.numbers in
    rw c.slots.ensures.slots ((numbers found.index 0 there.1).0)

pub returns-then-asked-slot-clause-none : goal.returns-then-asked-slot-clause-none
returns-then-asked-slot-clause-none g c =
    let bs = c.args.order.now.blocks in
    let asked = c.args.asked.now in
    let found = c.in-Some.found in
    let there = c.in-Some.ensures.there in
    let from = number_of bs c.args.at.now in
    let to = number_of bs found in
    let fits = number_within bs found.block there.0 in
    let is = ap (λ (slots : List ℕ). get_or slots found.index 0) c.slots.ensures.slots in
    let entry = entry_at bs found.block found.index there.0 there.1 in
    let P : ℕ → Type 0 = λ slot. asked.stop < get_or asked.starts.now slot 0 in
    let behind = subst P (is ∙ sym entry) c.if-asked-slot.true in
    passed (is_asked asked) (concat bs) from to c.in-Some.ensures.behind (omega arith)
    (λ at low high. misses_before asked.starts.now asked.ends.now asked.bound asked.stop _ (c.in-Some.ensures.passed at low high))
    ∙ none_picked (is_asked asked) (concat bs) to (omega arith)
    (λ at low high. misses_behind asked.starts.now asked.ends.now asked.bound asked.stop _
    (all_behind asked.starts.now (concat bs) (length asked.ends.now) asked.stop to c.requires.rising c.requires.numbers c.requires.few behind at low high))

pub returns-then-asked-slot-clause-looked : goal.returns-then-asked-slot-clause-looked
returns-then-asked-slot-clause-looked g c =
    let there = c.in-Some.ensures.there in
    let fits = number_within c.args.order.now.blocks c.in-Some.found.block there.0 in
    omega (arith, c.in-Some.ensures.looked)

pub returns-clause-some : goal.returns-clause-some
returns-clause-some g c =
    let bs = c.args.order.now.blocks in
    let asked = c.args.asked.now in
    let found = c.in-Some.found in
    let there = c.in-Some.ensures.there in
    let from = number_of bs c.args.at.now in
    let to = number_of bs found in
    let fits = number_within bs found.block there.0 in
    let is = ap (λ (slots : List ℕ). get_or slots found.index 0) c.slots.ensures.slots in
    let entry = entry_at bs found.block found.index there.0 there.1 in
    let low : asked.bound ≤ get_or asked.ends.now (get_or c.slots.result.now found.index 0) 0 = elim c.in-Some.ensures.some [
      | inl ends ↦ rw is ends
      | inr behind ↦ (let same = ap (λ slot. get_or asked.starts.now slot 0) is in absurd (omega arith))
    ] in
    let hit = hits asked.starts.now asked.ends.now asked.bound asked.stop _ low c.if-asked-slot.false in
    let next : start_of bs found.block + (found.index + 1) ≡ to + 1 = omega arith in
    passed (is_asked asked) (concat bs) from to c.in-Some.ensures.behind (omega arith)
    (λ at low high. misses_before asked.starts.now asked.ends.now asked.bound asked.stop _ (c.in-Some.ensures.passed at low high))
    ∙ picked (is_asked asked) (concat bs) to (omega arith) (ap (is_asked asked) (entry ∙ sym is) ∙ hit)
    ∙ rw (entry, ← is, next) refl
