-- One box is another.
use Rattle.std.proofs.Common.{◌++◌}
use Rattle.edit_model.specs.Minds.{blank_mind, mind_changed}
use Rattle.watcher_rounds.proofs.Shelves.{exchanged}
use Rattle.watcher_rounds.proofs.shelf.VecBoxDynWatcherShelf.changed.Goals as goal

pub returns : goal.returns
returns g c =
    let a = c.args in
    exchanged _ a.self.now.items a.at c.index_mut.result.now c.tell_changed.new.watcher
    (λ mind. mind_changed mind a.e.now (a.left.now ++ a.right.now)) (blank_mind 0)
    c.requires.place c.index_mut.ensures.value c.tell_changed.ensures
