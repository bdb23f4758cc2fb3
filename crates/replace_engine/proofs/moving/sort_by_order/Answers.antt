-- Keys are orders.
use Rattle.std.proofs.Common.{rules}
use Rattle.std.proofs.lemmas.List.Sorted.{IsNonDecreasingBy-from_sort_by_key}
use Rattle.edit_base.specs.declared.rows.SpanRow.{SpanRow}
use Rattle.replace_engine.proofs.moving.sort_by_order.Goals as goal

pub returns-clause-rising : goal.returns-clause-rising
returns-clause-rising c = IsNonDecreasingBy-from_sort_by_key (λ (row : SpanRow). row.order) _ c.sort_unstable_by_key.ensures.sorted (λ a r q k. search rules)
