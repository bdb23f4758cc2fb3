-- What filters keep, and where they take places.
use Rattle.edit_model.proofs.FilterLaws.{takes_places, leaves_places, cuts_no_pair, brought-filtered}
use Rattle.edit_model.proofs.Unfiltered.{does-unfiltered}
use Rattle.edit_model.proofs.laws.filters_keep_places.Goals as goal

pub returns-clause-in_order : goal.returns-clause-in_order
returns-clause-in_order c = takes_places

pub returns-clause-alone : goal.returns-clause-alone
returns-clause-alone c = leaves_places

pub returns-clause-whole_pairs : goal.returns-clause-whole_pairs
returns-clause-whole_pairs c = cuts_no_pair

pub returns-clause-brought : goal.returns-clause-brought
returns-clause-brought c = brought-filtered

pub returns-clause-unfiltered : goal.returns-clause-unfiltered
returns-clause-unfiltered c state slots asked =
    let same = does-unfiltered state asked in (same.verdict slots, same.state_is, same.effect, same.number)
