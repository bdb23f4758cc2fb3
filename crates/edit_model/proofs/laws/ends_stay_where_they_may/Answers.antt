use Rattle.edit_model.proofs.Paragraphs.{next_behind, next_is_boundary, next_least}
use Rattle.edit_model.proofs.Ends.{end_in_text, ends_in_order}
use Rattle.edit_model.proofs.KeptBoundaries.{boundary_kept}
use Rattle.std.proofs.Common.{arith}
use Rattle.edit_model.proofs.laws.ends_stay_where_they_may.Goals as goal

pub returns-clause-in_text : goal.returns-clause-in_text
returns-clause-in_text c = end_in_text

pub returns-clause-in_order : goal.returns-clause-in_order
returns-clause-in_order c = ends_in_order

pub returns-clause-at_boundaries : goal.returns-clause-at_boundaries
returns-clause-at_boundaries c x s e brought units ordered within bound = boundary_kept units s e brought ordered within x bound

pub returns-clause-least : goal.returns-clause-least
returns-clause-least c units e before =
    (next_behind units e before, next_is_boundary units e, next_least units e (omega arith))
