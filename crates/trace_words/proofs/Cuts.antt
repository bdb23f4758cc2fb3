-- Texts cut at spaces.
use Rattle.std.proofs.Common.{ℕ, suc, ◌≡◌, ◌+◌, ◌<◌, Bool, true, false, cond, eqb, List, [], ◌∷◌, length, take, drop, Option, Some, None}
use Rattle.std.proofs.Common.{refl, sym, ap, ◌∙◌, Bor, add-one, arith}
use Rattle.std.specs.Prelude.{MatchOption}
use Rattle.std.specs.List.{position_or_len, before_first, after_first}
use Rattle.trace_model.specs.Words.{words_of, into_word, what_by_words}

abbrev is_space : ℕ → Bool
is_space byte = eqb byte 32

-- a text without a space is one word
whole : (bytes : List ℕ) → position_or_len is_space bytes ≡ length bytes → words_of bytes ≡ bytes ∷ []
unfolding words_of
whole [] none = refl
whole (byte ∷ bytes) none = at (eqb byte 32) refl (whole bytes)
  where
    at : (test : Bool) → eqb byte 32 ≡ test → (position_or_len is_space bytes ≡ length bytes → words_of bytes ≡ bytes ∷ [])
        → words_of (byte ∷ bytes) ≡ (byte ∷ bytes) ∷ []
    at true is rest = absurd (let first : position_or_len is_space (byte ∷ bytes) ≡ 0 = rw is in omega arith)
    at false is rest =
        let further : position_or_len is_space (byte ∷ bytes) ≡ 1 + position_or_len is_space bytes = rw is in
        rw is (ap (into_word byte) (rest (omega arith)))

-- a text with a space is the word in front of it, and the words behind it
parted : (bytes : List ℕ) → position_or_len is_space bytes < length bytes → words_of bytes ≡ before_first is_space bytes ∷ words_of (after_first is_space bytes)
unfolding words_of
parted [] some = absurd (omega arith)
parted (byte ∷ bytes) some = at (eqb byte 32) refl (parted bytes)
  where
    at : (test : Bool) → eqb byte 32 ≡ test
        → (position_or_len is_space bytes < length bytes → words_of bytes ≡ before_first is_space bytes ∷ words_of (after_first is_space bytes))
        → words_of (byte ∷ bytes) ≡ before_first is_space (byte ∷ bytes) ∷ words_of (after_first is_space (byte ∷ bytes))
    at true is rest = rw is refl
    at false is rest =
        let first : position_or_len is_space (byte ∷ bytes) ≡ 1 + position_or_len is_space bytes = rw is in
        let further : position_or_len is_space (byte ∷ bytes) ≡ suc (position_or_len is_space bytes) = omega (arith, first) in
        let front : before_first is_space (byte ∷ bytes) ≡ byte ∷ before_first is_space bytes = ap (λ n. take n (byte ∷ bytes)) further in
        let behind : after_first is_space (byte ∷ bytes) ≡ after_first is_space bytes =
        ap (λ n. drop (n + 1) (byte ∷ bytes)) further
        ∙ ap (λ n. drop n (byte ∷ bytes)) (add-one (suc (position_or_len is_space bytes)))
        ∙ ap (λ n. drop n bytes) (sym (add-one (position_or_len is_space bytes))) in
        rw (front, behind, is) (ap (into_word byte) (rest (omega arith)))

pub words-cut : (bytes : List ℕ) (parts : Option (Bor (List ℕ) × Bor (List ℕ)))
    → MatchOption parts (position_or_len is_space bytes ≡ length bytes)
    (λ it. (position_or_len is_space bytes < length bytes) × (it.0.now ≡ before_first is_space bytes) × (it.1.now ≡ after_first is_space bytes))
    → MatchOption parts (words_of bytes ≡ bytes ∷ []) (λ it. words_of bytes ≡ it.0.now ∷ words_of it.1.now)
words-cut bytes None is = whole bytes is
words-cut bytes (Some it) is = let cut = parted bytes is.0 in let front = is.1 in let back = is.2 in cc

into_word-many : (name first third : List ℕ) (byte : ℕ) (words : List (List ℕ)) → what_by_words (name ∷ first ∷ third ∷ into_word byte words) ≡ None
into_word-many name first third byte [] = refl
into_word-many name first third byte (word ∷ words) = refl

-- four words and more have no reading
pub many-words : (name first third text : List ℕ) → what_by_words (name ∷ first ∷ third ∷ words_of text) ≡ None
unfolding words_of
many-words name first third [] = refl
many-words name first third (byte ∷ bytes) = at (eqb byte 32)
  where
    at : (test : Bool) → what_by_words (name ∷ first ∷ third ∷ cond test ([] ∷ words_of bytes) (into_word byte (words_of bytes))) ≡ None
    at true = refl
    at false = into_word-many name first third byte (words_of bytes)
