-- The test of `retain` is always the same.
use Rattle.std.proofs.Common.{rules}
use Rattle.std.proofs.lemmas.Fn.{filter_same}
use borrow.Author.Tests.{tests}
use Rattle.edit_model.specs.Replaced.{is_emptied}
use Rattle.edit_model.specs.Rows.{span_of}
use Rattle.replace_engine.proofs.moving.keep_emptied.Goals as goal

pub returns-clause-rows : goal.returns-clause-rows
returns-clause-rows c =
    filter_same _ (λ row. is_emptied c.args.start c.args.end c.args.grown (span_of row)) _ (λ x b q k. search (rules, tests)) _ _
    c.retain.ensures.filtered
