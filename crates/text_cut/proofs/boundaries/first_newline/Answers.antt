-- It stands in the first slice, in the second one, or in neither.
use Rattle.std.proofs.Common.{sym}
use Rattle.edit_model.specs.Boundaries.{is_newline}
use Rattle.text_cut.proofs.Halved.{position-front, position-back, position-neither}
use Rattle.text_cut.proofs.boundaries.first_newline.Goals as goal

pub returns-in-Some-clause-first : goal.returns-in-Some-clause-first
returns-in-Some-clause-first c = sym (position-front is_newline c.args.text.now.left.now c.args.text.now.right.now c.in-Some.at (sym c.in-Some.ensures.first))

pub returns-in-Some-newline_in-clause-first : goal.returns-in-Some-newline_in-clause-first
returns-in-Some-newline_in-clause-first c =
    sym (position-back is_newline c.args.text.now.left.now c.args.text.now.right.now (sym c.in-None.ensures.first) c.in-Some-newline_in.at
    (sym c.in-Some-newline_in.ensures.first))

pub returns-in-None-newline_in-clause-first : goal.returns-in-None-newline_in-clause-first
returns-in-None-newline_in-clause-first c =
    sym (position-neither is_newline c.args.text.now.left.now c.args.text.now.right.now (sym c.in-None.ensures.first) (sym c.in-None-newline_in.ensures.first))
