-- The lesser and the greater ones are left.
use Rattle.std.proofs.Common.{subst, ◌∙◌}
use Rattle.slot_lists.specs.Rising.{BelongsAt, StandsAt}
use Rattle.slot_lists.proofs.Parts.{without_at, without_none}
use Rattle.slot_lists.proofs.edits.remove_slot.Goals as goal

pub returns-in-Ok-clause-slots : goal.returns-in-Ok-clause-slots
returns-in-Ok-clause-slots c =
    let here = subst (λ xs. StandsAt xs c.args.slot c.in-Ok.place) c.deref.ensures.value c.in-Ok.ensures.ok in
    c.remove.ensures.by_index.2 ∙ without_at c.args.slots.now.items c.args.slot c.in-Ok.place here

pub returns-in-Err-clause-slots : goal.returns-in-Err-clause-slots
returns-in-Err-clause-slots c =
    let gap = subst (λ xs. BelongsAt xs c.args.slot c.in-Err.field-0) c.deref.ensures.value c.in-Err.ensures.err in
    without_none c.args.slots.now.items c.args.slot c.in-Err.field-0 gap
