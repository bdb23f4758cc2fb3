-- What stands at the place that is sought is the first slot behind the number.
use Rattle.std.specs.List.{concat}
use Rattle.interval_tree.proofs.QueryEdges.{first_none, first_some}
use Rattle.interval_tree.proofs.query.first_behind.Goals as goal

pub returns-clause-some : goal.returns-clause-some
returns-clause-some c =
    first_some c.args.keys.now (concat c.args.order.now.blocks) c.args.number _ c.requires.rising c.requires.below
    (c.seek-at.ensures.parted c.requires.rising) c.get.result c.get.ensures

pub returns-clause-none : goal.returns-clause-none
returns-clause-none c =
    first_none c.args.keys.now (concat c.args.order.now.blocks) c.args.number _ c.requires.rising c.requires.below
    (c.seek-at.ensures.parted c.requires.rising) c.get.result c.get.ensures
