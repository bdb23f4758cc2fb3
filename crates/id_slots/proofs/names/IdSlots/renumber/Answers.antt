-- Each slot is written anew.
use Rattle.std.proofs.Common.{rules, ◌∙◌, ap, length, nat_eq}
use Rattle.std.proofs.lemmas.List.{length-map}
use Rattle.std.proofs.lemmas.Map.Made.{lookup-map_values, map_same_pairs}
use Rattle.std.specs.Option.{option_map}
use Rattle.slot_ranks.specs.Slots.{rank}
use Rattle.id_slots.specs.Named.{Names, slot_in}
use Rattle.id_slots.proofs.Laws.{named_renumber}
use Rattle.id_slots.proofs.names.IdSlots.renumber.Goals as goal

pub returns-clause-slots : goal.returns-clause-slots
returns-clause-slots c =
    let f = rank c.args.ranks.now.live in
    let e = map_same_pairs _ f _ (λ k v b w g t. search rules) _ _ c.retain.ensures.filtered in
    λ id. rw e (lookup-map_values f (nat_eq id) c.self.inside.slots.entries)
    ∙ ap (λ names. option_map f (slot_in names id)) c.self.view_is

pub returns-clause-count : goal.returns-clause-count
returns-clause-count c =
    let f = rank c.args.ranks.now.live in
    let e = map_same_pairs _ f _ (λ k v b w g t. search rules) _ _ c.retain.ensures.filtered in
    ap length e ∙ length-map c.self.inside.slots.entries _ ∙ ap (λ (names : Names). length names.entries) c.self.view_is

pub returns-clause-named : goal.returns-clause-named
returns-clause-named c = λ ids slots named. named_renumber (rank c.args.ranks.now.live) ids slots c.args.self.now _ (returns-clause-slots c) (returns-clause-count c) named
