-- The order is the one that the value has.
use Rattle.std.proofs.Common.{◌≡◌, ◌∷◌, IfSome, drop, sym, subst}
use Rattle.std.specs.List.{concat, filter}
use Rattle.std.specs.List.Sorted.{IsNonDecreasingBy}
use Rattle.span_order.specs.Blocks.{number_of}
use Rattle.span_order.specs.Hits.{is_hit}
use Rattle.span_order.specs.Ranked.{rank_in}
use Rattle.span_order.specs.Topped.{ToppedRow}
use Rattle.span_order.proofs.topped.ToppedOrder.next_hit.Goals as goal

pub next_hit-requires-clause-rising : goal.next_hit-requires-clause-rising
next_hit-requires-clause-rising g c =
    subst (λ (row : ToppedRow). IsNonDecreasingBy (rank_in c.args.starts.now) (concat row.blocks)) (sym c.self.view_is) c.requires.rising

pub returns-clause-some : goal.returns-clause-some
returns-clause-some g c =
    subst (λ (row : ToppedRow). IfSome c.next_hit.result (λ slot. filter (is_hit c.args.starts.now c.args.ends.now c.args.bound c.args.stop)
    (drop (number_of row.blocks c.args.at.now) (concat row.blocks))
    ≡ slot ∷ filter (is_hit c.args.starts.now c.args.ends.now c.args.bound c.args.stop)
    (drop (number_of row.blocks c.next_hit.new.at) (concat row.blocks)))) c.self.view_is c.next_hit.ensures.some
