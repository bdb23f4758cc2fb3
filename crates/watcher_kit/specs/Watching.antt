-- The mind of a watcher.
use Rattle.std.specs.Prelude.{ℕ, true, List, Option, None, Some}
use Rattle.edit_model.specs.Minds.{Mind, blank_mind}
use Rattle.watcher_kit.specs.declared.watching.Kept.{Kept}

-- a loaded mind of a kind, with its numbers
abbrev pub mind_with : ℕ → List ℕ → ℕ → Option ℕ → Mind
mind_with kind numbers calls place = record { kind = kind; loaded = true; numbers = numbers; calls = calls; place = place }

module _ {K : Type 0} where
  -- a blank one where nothing is kept
  abbrev pub mind_of : ℕ → (K → List ℕ) → Option (Kept K) → Mind
  mind_of kind list None = blank_mind kind
  mind_of kind list (Some kept) = mind_with kind (list kept.numbers) kept.calls kept.place
