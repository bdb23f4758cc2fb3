-- The test of `retain` is always the same.
use Rattle.std.proofs.Common.{rules}
use Rattle.std.proofs.lemmas.Fn.{filter_same}
use borrow.Author.Tests.{tests}
use Rattle.input_filters.specs.Kept.{is_kept}
use Rattle.input_filters.proofs.units.keep_some.Goals as goal

pub returns : goal.returns
returns c = filter_same _ (is_kept c.args.filter.now) _ (λ x b q k. search (rules, tests)) _ _ c.retain.ensures.filtered
