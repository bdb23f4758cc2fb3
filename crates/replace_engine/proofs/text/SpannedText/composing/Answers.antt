-- The state is well formed.
use Rattle.std.proofs.Common.{ap}
use Rattle.span_changes.specs.Rows.{state_with}
use Rattle.replace_engine.proofs.Within.{region_within}
use Rattle.replace_engine.proofs.text.SpannedText.composing.Goals as goal

pub returns-clause-within : goal.returns-clause-within
returns-clause-within c =
    rw (c.region_of.ensures.region, c.rows.ensures.spans, ← ap (λ seen. seen.state.units) c.self.view_is)
    (region_within (state_with c.self.inside.units.units c.self.inside.change.moved.rows) c.self.invariant.formed)
