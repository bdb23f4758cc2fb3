-- Numbers read from decimal digits.
use Rattle.std.proofs.Common.{ℕ, ◌≡◌, ◌≢◌, ◌-◌, ◌+◌, ◌*◌, ◌≤◌, ◌&&◌, leb, List, Option, Some, None, Result, IfSome, fold, decimal}
use Rattle.std.proofs.Common.{refl, sym, ap, ◌∙◌, arith, rules}
use Rattle.std.specs.Result.{result_ok}
use Rattle.std.specs.Str.{bytes_eq}
use Rattle.std.specs.Str.Parse.{AllDigits, ParsesUnsigned}
use Rattle.std.proofs.lemmas.Bool.{and_from, and_parts, cond-true, cond_both, le-leb, leb-true}
use Rattle.std.proofs.lemmas.Fmt.{digits_value-decimal, parse-decimal}
use Rattle.std.proofs.lemmas.Slice.Eq.{bytes_eq-Decides}
use Rattle.std.proofs.lemmas.Str.Parse.{IsNumeralModel, numerals_by_fold, tells_digits}
use Rattle.trace_model.specs.Words.{digits_value, whole_number, greatest_id}

-- the number of some digits with further ones behind it
abbrev value_from : ℕ → List ℕ → ℕ
value_from n text = fold (λ before digit. before * 10 + (digit - 48)) n text

numerals : IsNumeralModel (AllDigits 10) (value_from 0)
numerals = numerals_by_fold (AllDigits 10) tells_digits value_from (search rules)

-- a number's own form reads as the number
pub whole_number-decimal : (n : ℕ) (text : List ℕ) → n ≤ greatest_id → decimal n ≡ text → Some n ≡ whole_number greatest_id text
whole_number-decimal n text within is =
    let value : digits_value text ≡ n = ap digits_value (sym is) ∙ digits_value-decimal numerals n (omega arith) in
    let same = bytes_eq (decimal (digits_value text)) text in
    let small = leb (digits_value text) greatest_id in
    sym (cond-true (same && small) (Some (digits_value text)) None
    (and_from same small ((bytes_eq-Decides (decimal (digits_value text)) text).1 (ap decimal value ∙ is))
    (le-leb (digits_value text) greatest_id (omega arith)))
    ∙ ap Some value)

-- what is no number's own form reads as none
whole_number-other : (text : List ℕ) → ((n : ℕ) → n ≤ greatest_id → decimal n ≢ text) → None ≡ whole_number greatest_id text
whole_number-other text other =
    let n = digits_value text in
    let same = bytes_eq (decimal n) text in
    let small = leb n greatest_id in
    cond_both (same && small) (Some n) None (λ found. None ≡ found)
    (λ yes. let both = and_parts same small yes in absurd (other n (leb-true n greatest_id both.1) ((bytes_eq-Decides (decimal n) text).0 both.0)))
    (λ no. refl)

-- a text that `parse` refuses, or whose number has another form
pub whole_number-unlike : {E : Type 0} (text : List ℕ) (r : Result ℕ E) (found : Option ℕ) → ParsesUnsigned 32 10 text r → found ≡ result_ok r
    → IfSome found (λ n. decimal n ≢ text) → None ≡ whole_number greatest_id text
whole_number-unlike text r found parses is unlike = whole_number-other text (λ n within form.
    let read : found ≡ Some n = is ∙ ap result_ok (parse-decimal 32 n text r (omega arith) (omega arith) (sym form) parses) in
    let told = rw read at unlike in told form)
