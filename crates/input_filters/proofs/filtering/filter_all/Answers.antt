-- Each filter goes on from what the ones before it left.
use Rattle.std.proofs.Common.{◌≡◌, ap, ◌∙◌, length, arith}
use Rattle.std.specs.List.{fold}
use Rattle.edit_base.specs.declared.rows.Incoming.{Incoming}
use Rattle.edit_model.specs.Brought.{IsBrought}
use Rattle.edit_model.specs.Filtered.{clipped, through, filtered}
use Rattle.edit_model.proofs.FilterLaws.{brought-filtered}
use Rattle.input_filters.proofs.Walk.{reached_all}
use Rattle.input_filters.proofs.filtering.filter_all.Goals as goal

pub returns-clause-filtered : goal.returns-clause-filtered
unfolding filtered
returns-clause-filtered c =
    reached_all c.args.filters.now c.loop-filter.invariant (omega arith)
    ∙ ap (λ others. fold (through others) (clipped c.args.incoming.now) c.args.filters.now) c.units_beside-others.ensures

brought_as : (it other : Incoming) → it ≡ other → IsBrought other → IsBrought it
brought_as it other is brought = rw is brought

pub returns-clause-brought : goal.returns-clause-brought
returns-clause-brought c =
    let law = brought-filtered c.args.filters.now c.args.incoming.now c.args.len c.args.start c.args.end c.requires.brought in
    brought_as _ _ (returns-clause-filtered c) law.0

pub returns-clause-units : goal.returns-clause-units
returns-clause-units c =
    let law = brought-filtered c.args.filters.now c.args.incoming.now c.args.len c.args.start c.args.end c.requires.brought in
    omega (arith, ap (λ it. length it.units) (returns-clause-filtered c), law.1)
