-- The slot stands between the lesser and the greater ones.
use Rattle.std.proofs.Common.{subst, ◌∙◌}
use Rattle.slot_lists.specs.Rising.{BelongsAt, StandsAt}
use Rattle.slot_lists.proofs.Parts.{with_at, with_between}
use Rattle.slot_lists.proofs.edits.insert_slot.Goals as goal

pub returns-in-Ok-clause-slots : goal.returns-in-Ok-clause-slots
returns-in-Ok-clause-slots c =
    let here = subst (λ xs. StandsAt xs c.args.slot c.in-Ok.field-0) c.deref.ensures.value c.in-Ok.ensures.ok in
    with_at c.args.slots.now.items c.args.slot c.in-Ok.field-0 here

pub returns-in-Err-clause-slots : goal.returns-in-Err-clause-slots
returns-in-Err-clause-slots c =
    let gap = subst (λ xs. BelongsAt xs c.args.slot c.in-Err.place) c.deref.ensures.value c.in-Err.ensures.err in
    c.insert_within.ensures.items ∙ with_between c.args.slots.now.items c.args.slot c.in-Err.place gap
