-- One box is another.
use Rattle.std.proofs.Common.{◌++◌}
use Rattle.edit_model.specs.Minds.{blank_mind, mind_after}
use Rattle.watcher_rounds.proofs.Shelves.{exchanged}
use Rattle.watcher_rounds.proofs.shelf.VecBoxDynWatcherShelf.after.Goals as goal

pub returns-clause-minds : goal.returns-clause-minds
returns-clause-minds g c =
    let a = c.args in
    exchanged _ a.self.now.items a.at c.index_mut.result.now c.tell_after.new.watcher
    (λ mind. mind_after mind a.e.now (a.left.now ++ a.right.now)) (blank_mind 0)
    c.requires.place c.index_mut.ensures.value c.tell_after.ensures.mind
