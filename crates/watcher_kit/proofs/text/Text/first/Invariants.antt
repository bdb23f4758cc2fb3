-- No place up to here passed the test: the first that does is the first from here on.
use Rattle.std.proofs.Common.{ℕ, ◌≡◌, ◌<◌, Bool, length}
use Rattle.edit_model.specs.Minds.{first_place}
use Rattle.watcher_kit.specs.Texts.{joined}
use Rattle.watcher_kit.proofs.text.Text.first.Given as goal

abbrev pub invariant-loop-at : goal.invariant-loop-at
invariant-loop-at g l =
    (passes : ℕ → Bool) → ((at : ℕ) (is : Bool) → at < length (joined l.self) → goal.F-post g l.test at is → is ≡ passes at)
    → first_place passes l.at l.at-end ≡ first_place passes l.from l.at-end
