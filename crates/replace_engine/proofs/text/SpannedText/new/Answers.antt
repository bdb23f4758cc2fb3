-- Nothing was edited yet, so nothing is told of.
use Rattle.std.proofs.Common.{ap, refl}
use Rattle.edit_model.specs.Changed.{no_effect}
use Rattle.edit_model.specs.Rows.{spans_in}
use Rattle.span_changes.proofs.Spans.{effect_from}
use Rattle.span_changes.proofs.MovedLaws.{begun_tells}
use Rattle.replace_engine.proofs.text.SpannedText.new.Goals as goal

pub returns-clause-effect : goal.returns-clause-effect
returns-clause-effect c =
    effect_from _ _ _ no_effect refl refl refl (ap spans_in c.new-3.ensures.items)
    (begun_tells c.in_ok-new-2.field-0 c.in_ok-new-2.ensures.begun) (ap spans_in c.new-5.ensures.items)
