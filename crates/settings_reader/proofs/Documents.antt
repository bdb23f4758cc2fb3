-- What `toml` says of a file, in the words of the definition of settings.
use Rattle.std.proofs.Common.{ℕ, ◌≡◌, List, Some, None, ◌∙◌, refl}
use Rattle.std.proofs.lemmas.Bool.{cond-true, cond_both}
use Rattle.std.proofs.lemmas.Str.{IsUtf8-from_is_utf8, is_utf8-from_IsUtf8}
use Rattle.std.specs.Str.{IsUtf8, is_utf8}
use Rattle.toml.specs.Data.{Members}
use Rattle.toml.specs.Parse.{parse_document}
use Rattle.trace_model.specs.Settings.{toml_of}

pub toml_of-some : (bytes : List ℕ) (document : Members) → IsUtf8 bytes → parse_document bytes ≡ Some document → toml_of bytes ≡ Some document
toml_of-some bytes document utf8 is = cond-true (is_utf8 bytes) (parse_document bytes) None (is_utf8-from_IsUtf8 bytes utf8) ∙ is

pub toml_of-none : (bytes : List ℕ) → (IsUtf8 bytes → parse_document bytes ≡ None) → toml_of bytes ≡ None
toml_of-none bytes none =
    cond_both (is_utf8 bytes) (parse_document bytes) None (λ found. found ≡ None)
    (λ yes. none (IsUtf8-from_is_utf8 bytes yes)) (λ no. refl)

pub ruleset documents = (toml_of-some, toml_of-none)
