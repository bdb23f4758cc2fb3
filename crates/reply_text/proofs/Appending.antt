-- Appending one piece behind another.
use Rattle.std.proofs.Common.{ℕ, ◌≡◌, List, [], ◌++◌, sym, ap, ◌∙◌, append_assoc, append-nil}
use Rattle.reply_text.specs.Appended.{Extends}

-- nothing is appended
pub Extends-same : (old new : List ℕ) → new ≡ old → Extends old new
Extends-same old new is = record { more = []; is = is ∙ sym (append-nil old) }

-- bytes behind a list that goes on from another one
pub Extends-behind : (old front mid new : List ℕ) → mid ≡ old ++ front → Extends mid new → Extends old new
Extends-behind old front mid new is more = record {
  more = front ++ more.more;
  is = more.is ∙ ap (λ bytes. bytes ++ more.more) is ∙ append_assoc old front more.more;
}

-- one piece behind another
pub behind : (old front back mid new : List ℕ) → mid ≡ old ++ front → new ≡ mid ++ back → new ≡ old ++ (front ++ back)
behind old front back mid new is more = more ∙ ap (λ bytes. bytes ++ back) is ∙ append_assoc old front back

-- the bytes behind it
pub some_more : {old new : List ℕ} → Extends old new → (more : List ℕ) × (new ≡ old ++ more)
some_more more = (more.more, more.is)

pub ruleset appending = (some_more, Extends-same, Extends-behind, append_assoc)
