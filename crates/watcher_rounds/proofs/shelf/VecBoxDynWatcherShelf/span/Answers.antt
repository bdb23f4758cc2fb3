-- One box is another.
use Rattle.std.proofs.Common.{◌++◌}
use Rattle.edit_model.specs.Minds.{blank_mind, mind_span}
use Rattle.watcher_rounds.proofs.Shelves.{exchanged}
use Rattle.watcher_rounds.proofs.shelf.VecBoxDynWatcherShelf.span.Goals as goal

pub returns-clause-minds : goal.returns-clause-minds
returns-clause-minds g c =
    let a = c.args in
    exchanged _ a.self.now.items a.at c.index_mut.result.now c.tell_span.new.watcher
    (λ mind. mind_span mind a.e.now (a.left.now ++ a.right.now)) (blank_mind 0)
    c.requires.place c.index_mut.ensures.value c.tell_span.ensures.mind
