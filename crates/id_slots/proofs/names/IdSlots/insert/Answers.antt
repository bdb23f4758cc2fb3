-- The id stands behind the others.
use Rattle.std.proofs.Common.{rules}
use Rattle.id_slots.proofs.Laws.{named_insert}
use Rattle.id_slots.proofs.names.IdSlots.insert.Goals as goal

pub returns-clause-slots : goal.returns-clause-slots
returns-clause-slots c = search rules

pub returns-clause-count : goal.returns-clause-count
returns-clause-count c = search rules

pub returns-clause-named : goal.returns-clause-named
returns-clause-named c = λ ids slots named. named_insert ids slots c.args.id c.args.slot c.args.self.now _ c.requires.absent (returns-clause-slots c) (returns-clause-count c) named
