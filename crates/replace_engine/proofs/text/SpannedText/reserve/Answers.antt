-- Room for more rows leaves what is told.
use Rattle.std.proofs.Common.{ap, ◌∙◌}
use Rattle.edit_model.specs.Rows.{spans_in}
use Rattle.span_changes.specs.Changes.{effect_of}
use Rattle.span_changes.proofs.Lists.{same_seen}
use Rattle.span_changes.proofs.MovedLaws.{still_tells}
use Rattle.span_changes.proofs.Spans.{effect_from}
use Rattle.replace_engine.proofs.text.SpannedText.reserve.Goals as goal

pub returns-clause-effect : goal.returns-clause-effect
returns-clause-effect c =
    let same = c.reserve-2.ensures in
    let still = same.still in
    let spans = same_seen c.reserve-2.new.self.moved.rows c.self.inside.change.moved.rows same.rows still.gap still.room in
    effect_from _ _ _ (effect_of c.self.inside.change) same.start same.old_end same.grown (ap spans_in same.removed)
    (still_tells c.self.inside.change.moved c.reserve-2.new.self.moved still.before still.told spans) (ap spans_in same.added)
    ∙ ap (λ seen. seen.effect) c.self.view_is
