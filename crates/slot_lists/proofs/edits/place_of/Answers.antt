-- A binary search in a rising list.
use Rattle.slot_lists.proofs.Parts.{search_err, search_ok}
use Rattle.slot_lists.proofs.edits.place_of.Goals as goal

pub returns-clause-ok : goal.returns-clause-ok
returns-clause-ok c = search_ok c.args.slots.now c.args.slot c.binary_search.result c.binary_search.ensures.position c.requires.rising

pub returns-clause-err : goal.returns-clause-err
returns-clause-err c = search_err c.args.slots.now c.args.slot c.binary_search.result c.binary_search.ensures.position c.requires.rising
