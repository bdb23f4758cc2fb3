-- The number that is read is still the old one.
use Rattle.std.proofs.Common.{◌≡◌, ◌≤◌, true, false, length, subst, sym, ◌∙◌, arith}
use Rattle.slot_ranks.specs.Slots.{is_live, rank, line}
use Rattle.span_table.specs.Slots.{IsShut}
use Rattle.span_table.proofs.Places.{carried_live, carrying_dead, carrying_live, carrying_start, still_old}
use Rattle.span_table.proofs.slots.carry_live.Goals as goal

pub loop-slot-init : goal.loop-slot-init
loop-slot-init c = carrying_start c.args.ranks.now.live c.args.numbers.now

pub loop-slot-preserved-then-not-is_live : goal.loop-slot-preserved-then-not-is_live
loop-slot-preserved-then-not-is_live c =
    let dead : is_live c.args.ranks.now.live c.loop-slot.slot ≡ false = sym c.is_live.ensures ∙ c.if-not-is_live.true in
    carrying_dead c.args.ranks.now.live c.args.numbers.now c.loop-slot.numbers c.loop-slot.slot dead c.loop-slot.invariant

pub carried-requires-clause-behind : goal.carried-requires-clause-behind
carried-requires-clause-behind c =
    let live = c.args.ranks.now.live in
    let slot = c.loop-slot.slot in
    let is : is_live live slot ≡ true = sym c.is_live.ensures ∙ c.if-not-is_live.false in
    let old = still_old live c.args.numbers.now c.loop-slot.numbers slot is c.loop-slot.invariant in
    (subst (IsShut c.args.old_gap c.args.old_room) (sym old) (c.requires.valid slot is)).behind

pub carried-requires-clause-fits : goal.carried-requires-clause-fits
carried-requires-clause-fits c =
    let live = c.args.ranks.now.live in
    let slot = c.loop-slot.slot in
    let is : is_live live slot ≡ true = sym c.is_live.ensures ∙ c.if-not-is_live.false in
    let old = still_old live c.args.numbers.now c.loop-slot.numbers slot is c.loop-slot.invariant in
    (subst (IsShut c.args.old_gap c.args.old_room) (sym old) (c.requires.valid slot is)).fits

pub loop-slot-preserved : goal.loop-slot-preserved
loop-slot-preserved c =
    let live = c.args.ranks.now.live in
    let is : is_live live c.loop-slot.slot ≡ true = sym c.is_live.ensures ∙ c.if-not-is_live.false in
    carrying_live live c.args.numbers.now c.loop-slot.numbers c.loop-slot.slot c.carried.result is (omega arith) c.carried.ensures c.loop-slot.invariant

pub returns : goal.returns
returns c =
    let all : c.loop-slot.slot ≡ length c.args.ranks.now.live = omega arith in
    carried_live c.args.ranks.now.live c.loop-slot.invariant (subst (λ n. length (line c.args.ranks.now.live) ≤ rank c.args.ranks.now.live n) (sym all) (omega arith))
