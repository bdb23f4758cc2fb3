-- What `serde_json` says of a line and of an object, in the words of the definition of reading.
use Rattle.std.proofs.Common.{ℕ, ◌≡◌, List, Some, None, refl, ◌∙◌}
use Rattle.std.proofs.lemmas.Bool.{cond-true, cond_both}
use Rattle.std.proofs.lemmas.Str.{IsUtf8-from_is_utf8, is_utf8-from_IsUtf8}
use Rattle.std.specs.Str.{IsUtf8, is_utf8}
use Rattle.serde_json.specs.Data.{Data}
use Rattle.serde_json.specs.Read.{read}
use Rattle.trace_model.specs.Reading.{json_of}

-- ---- the value of a line

pub json_of-some : (bytes : List ℕ) (value : Data) → IsUtf8 bytes → read bytes ≡ Some value → json_of bytes ≡ Some value
json_of-some bytes value utf8 is = cond-true (is_utf8 bytes) (read bytes) None (is_utf8-from_IsUtf8 bytes utf8) ∙ is

pub json_of-none : (bytes : List ℕ) → (IsUtf8 bytes → read bytes ≡ None) → json_of bytes ≡ None
json_of-none bytes none =
    cond_both (is_utf8 bytes) (read bytes) None (λ found. found ≡ None)
    (λ yes. none (IsUtf8-from_is_utf8 bytes yes)) (λ no. refl)

pub ruleset json = (json_of-some, json_of-none)
