-- A slot that belongs elsewhere isn't there.
use Rattle.std.proofs.Common.{ap, subst, sym, ◌∙◌}
use Rattle.slot_ranks.specs.Slots.{is_among}
use Rattle.slot_lists.specs.Rising.{BelongsAt, Rising}
use Rattle.slot_lists.proofs.Parts.{among_none}
use Rattle.slot_lists.proofs.list.SlotList.contains.Goals as goal

pub returns-in-Err : goal.returns-in-Err
returns-in-Err c =
    let gap = subst (λ xs. BelongsAt xs c.args.slot c.in-Err.field-0) c.deref.ensures.value c.in-Err.ensures.err in
    sym (among_none c.self.inside.slots.items c.args.slot c.in-Err.field-0 gap)
    ∙ ap (λ (s : Rising). is_among s.slots c.args.slot) c.self.view_is
