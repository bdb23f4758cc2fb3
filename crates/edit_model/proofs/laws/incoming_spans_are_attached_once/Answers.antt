use Rattle.edit_model.proofs.Newcomers.{first-newcomers}
use Rattle.edit_model.proofs.laws.incoming_spans_are_attached_once.Goals as goal

pub returns : goal.returns
returns c units attached spans id = first-newcomers units id attached spans
