-- The slots of the rows are the live ones.
use Rattle.std.proofs.Common.{ap, ◌∙◌}
use Rattle.slot_ranks.specs.Slots.{is_among}
use Rattle.span_table.specs.Table.{Rows}
use Rattle.span_table.proofs.Places.{live_among}
use Rattle.span_table.proofs.table.SpanRows.is_live.Goals as goal

pub returns : goal.returns
returns c =
    c.is_live.ensures ∙ live_among c.self.inside.ranks.live c.args.slot ∙ ap (λ (r : Rows). is_among r.slots c.args.slot) c.self.view_is
