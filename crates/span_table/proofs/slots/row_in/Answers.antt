-- By its definition.
use Rattle.std.proofs.Common.{refl}
use Rattle.span_table.specs.Slots.{row_in}
use Rattle.span_table.proofs.slots.row_in.Goals as goal

pub returns : goal.returns
unfolding row_in
returns c = refl
