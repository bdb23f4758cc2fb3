use Rattle.watcher_rounds.proofs.resolving.resolve.Goals as goal

pub returns-in-Edit-clause-ordered : goal.returns-in-Edit-clause-ordered
returns-in-Edit-clause-ordered c = c.resolve_edit.ensures.ordered c.args.text.now.state
