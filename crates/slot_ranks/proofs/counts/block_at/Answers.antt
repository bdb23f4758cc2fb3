-- The first count passes, so the point stands behind it.
use Rattle.std.proofs.Common.{◌-◌, leb, inl, inr, arith, rules, sym, ◌∙◌}
use Rattle.std.proofs.lemmas.Bool.{cases_lt, leb-true, leb-false, le-leb, false≢true}
use Rattle.std.proofs.lemmas.List.Sorted.{IsPartitionPoint-from_clause, IsPartitionedBy-leb}
use Rattle.slot_ranks.proofs.counts.block_at.Goals as goal

pub overflow_sub-result : goal.overflow_sub-result
overflow_sub-result c =
    let parts = IsPartitionPoint-from_clause (λ count. leb count c.args.at) _ _ c.partition_point.ensures.partitioned
    (IsPartitionedBy-leb (λ count. count) c.args.before.now c.args.at c.requires.rising) (λ a r q k. search rules) in
    elim (cases_lt 0 c.partition_point.result) [
      | inl some ↦ omega arith
      | inr none ↦ (let fails = parts.1 0 0 none c.requires.first in absurd (false≢true (sym fails ∙ le-leb _ _ c.requires.least)))
    ]

pub returns-clause-from : goal.returns-clause-from
returns-clause-from c =
    let parts = IsPartitionPoint-from_clause (λ count. leb count c.args.at) _ _ c.partition_point.ensures.partitioned
    (IsPartitionedBy-leb (λ count. count) c.args.before.now c.args.at c.requires.rising) (λ a r q k. search rules) in
    let some = overflow_sub-result c in
    leb-true _ _ (parts.0 (c.partition_point.result - 1) 0 (omega arith) (omega arith))

pub returns-clause-last : goal.returns-clause-last
returns-clause-last c =
    let parts = IsPartitionPoint-from_clause (λ count. leb count c.args.at) _ _ c.partition_point.ensures.partitioned
    (IsPartitionedBy-leb (λ count. count) c.args.before.now c.args.at c.requires.rising) (λ a r q k. search rules) in
    λ k behind within. leb-false _ _ (parts.1 k 0 (omega arith) within)
