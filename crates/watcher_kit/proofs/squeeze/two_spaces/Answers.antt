-- No two spaces stand together from the end of the text on.
use Rattle.std.proofs.Common.{rules, length, sym, ◌∙◌}
use Rattle.edit_model.specs.Minds.{has_spaces}
use Rattle.watcher_kit.specs.Texts.{joined}
use Rattle.watcher_kit.proofs.Places.{first_before_end, no_spaces}
use Rattle.watcher_kit.proofs.squeeze.two_spaces.Goals as goal

pub returns-clause-first : goal.returns-clause-first
returns-clause-first c =
    let units = joined c.args.text.now in
    c.first.ensures.first (has_spaces units) (λ at is inside tells. search rules)
    ∙ sym (first_before_end (has_spaces units) (length units) (no_spaces units) c.args.from c.args.to)
