-- What an edit leaves, by its verdict.
use Rattle.std.proofs.Common.{◌≡◌, ◌≢◌, refl}
use Rattle.edit_base.specs.declared.verdicts.Verdict.{Verdict}
use Rattle.edit_base.specs.declared.verdicts.Verdict.TheVariants.{Done, NoChange, Ignored, Absent, Refused}
use Rattle.edit_model.specs.Changed.{on_done}

pub on_done-at_done : {X : Type 0} (verdict : Verdict) (done kept : X) → verdict ≡ Done → on_done verdict done kept ≡ done
on_done-at_done verdict done kept e = rw e

pub on_done-else : {X : Type 0} (verdict : Verdict) (done kept : X) → verdict ≢ Done → on_done verdict done kept ≡ kept
on_done-else Done done kept h = absurd (h refl)
on_done-else NoChange done kept h = refl
on_done-else Ignored done kept h = refl
on_done-else Absent done kept h = refl
on_done-else (Refused refusal) done kept h = refl

pub ruleset by_verdict = (on_done-at_done, on_done-else)
