-- The id goes from its place.
use Rattle.std.proofs.Common.{rules}
use Rattle.id_slots.proofs.Laws.{named_remove}
use Rattle.id_slots.proofs.names.IdSlots.remove.Goals as goal

pub returns-clause-slots : goal.returns-clause-slots
returns-clause-slots c = search rules

pub returns-clause-count : goal.returns-clause-count
returns-clause-count c = search rules

pub returns-clause-named : goal.returns-clause-named
returns-clause-named c = λ ids slots place distinct named within at. named_remove ids slots place c.args.self.now _ distinct within (rw at (returns-clause-slots c)) (returns-clause-count c) named
