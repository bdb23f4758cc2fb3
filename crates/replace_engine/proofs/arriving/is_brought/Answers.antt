-- The incoming spans are the placed ones.
use Rattle.std.proofs.Common.{rules, sym, ◌∙◌, ◌&&◌}
use Rattle.std.proofs.lemmas.Iterator.{YieldsList-from_slice}
use Rattle.std.proofs.lemmas.Iterator.Search.{any_from_yields_List}
use borrow.Author.Tests.{tests}
use Rattle.edit_model.specs.Attached.{has_id}
use Rattle.edit_model.specs.Brought.{has_place}
use Rattle.replace_engine.specs.Arrivals.{placed, text_then}
use Rattle.edit_model.proofs.Tests.{list_any-map}
use Rattle.replace_engine.proofs.arriving.is_brought.Goals as goal

pub returns : goal.returns
returns c =
    any_from_yields_List (λ span. has_id c.args.id (placed c.args.cut.now span) && has_place (text_then c.args.cut.now) (placed c.args.cut.now span)) _ _ _
    c.any.ensures.ran
    (YieldsList-from_slice c.args.before.now c.iter.ensures.rest) (λ x b q k. search (rules, tests))
    ∙ sym (list_any-map (placed c.args.cut.now) (λ span. has_id c.args.id span && has_place (text_then c.args.cut.now) span) c.args.before.now)
