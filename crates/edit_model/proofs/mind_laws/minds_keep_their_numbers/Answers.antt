use Rattle.std.proofs.Common.{◌≡◌, Bool, true, false, cond, List, [], refl}
use Rattle.std.specs.Prelude.{None, Some, not, ◌&&◌}
use Rattle.edit_base.specs.declared.edits.Edit.{Edit}
use Rattle.edit_model.specs.Minds.{Mind, Said, loaded_mind, mind_before, mind_changed, mind_after, answer_after, mind_span, answer_span}
use Rattle.edit_model.proofs.Answering.{no-rules}
use Rattle.edit_model.proofs.mind_laws.minds_keep_their_numbers.Goals as goal

pub returns-clause-numbers : goal.returns-clause-numbers
unfolding mind_before mind_changed mind_after mind_span
returns-clause-numbers c mind units = (
  λ event. (
    record { kind = refl; loaded = refl; numbers = refl },
    record { kind = refl; loaded = refl; numbers = refl },
    record { kind = refl; loaded = refl; numbers = refl },
  ),
  λ event. record { kind = refl; loaded = refl; numbers = refl },
)

pub returns-clause-blank : goal.returns-clause-blank
unfolding mind_before mind_changed mind_after answer_after mind_span answer_span
returns-clause-blank c mind units blank = (
  λ event. (rw blank refl, rw blank refl, rw blank refl, rw blank refl),
  λ event. (rw blank refl, rw blank refl),
)

quiet_said : (loaded : Bool) (said other : Said) → said.edits ≡ [] → other.edits ≡ [] → (cond loaded said other).edits ≡ []
quiet_said true said other here there = here
quiet_said false said other here there = there

quiet : (loaded : Bool) (edits : List Edit) → edits ≡ [] → cond loaded edits [] ≡ []
quiet true edits here = here
quiet false edits here = refl

unfit : (loaded fits : Bool) (mind : Mind) → fits ≡ false → cond (not loaded && fits) (Some mind) None ≡ None
unfit true fits mind e = refl
unfit false fits mind e = rw e refl

pub returns-clause-others : goal.returns-clause-others
unfolding loaded_mind answer_after answer_span
returns-clause-others c mind units behind = (
  λ numbers. unfit mind.loaded _ _ (rw (no-rules mind.kind behind) refl),
  λ event. quiet_said mind.loaded _ _ (rw (no-rules mind.kind behind) refl) refl,
  λ event. quiet mind.loaded _ (rw (no-rules mind.kind behind) refl),
)
