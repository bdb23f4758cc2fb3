-- The rows are the spans.
use Rattle.std.proofs.Common.{rules, sym, ◌∙◌}
use Rattle.std.proofs.lemmas.Iterator.{YieldsList-from_slice}
use Rattle.std.proofs.lemmas.Iterator.Search.{any_from_yields_List}
use borrow.Author.Tests.{tests}
use Rattle.edit_model.specs.Rows.{span_of}
use Rattle.text_cut.specs.Pulled.{has_pulled_end}
use Rattle.edit_model.proofs.Tests.{list_any-map}
use Rattle.text_cut.proofs.boundaries.pulls_one.Goals as goal

pub returns : goal.returns
returns c =
    any_from_yields_List (λ row. has_pulled_end c.args.start c.args.end (span_of row)) _ _ _ c.any.ensures.ran
    (YieldsList-from_slice c.args.rows.now c.iter.ensures.rest) (λ x b q k. search (rules, tests))
    ∙ sym (list_any-map span_of (has_pulled_end c.args.start c.args.end) c.args.rows.now)
