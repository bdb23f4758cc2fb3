use Rattle.edit_model.proofs.ResolvedItems.{resolves_in_order}
use Rattle.edit_model.proofs.selection_laws.items_resolve_in_order.Goals as goal

pub returns : goal.returns
returns c = resolves_in_order
