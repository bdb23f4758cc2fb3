-- Raising keeps every unit.
use Rattle.input_filters.proofs.Taken.{left_alone}
use Rattle.input_filters.proofs.places.filter_places.Goals as goal

pub returns-in-AsciiUpper-clause-ok : goal.returns-in-AsciiUpper-clause-ok
returns-in-AsciiUpper-clause-ok c = rw c.in-AsciiUpper.is (left_alone c.args.units.now c.args.spans.now c.requires.inside)
