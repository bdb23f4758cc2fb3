-- Words and numbers in texts.
use Rattle.std.specs.Prelude.{ℕ, ◌+◌, ◌-◌, ◌*◌, ◌&&◌, ◌==◌, List, [], ◌∷◌, nat_le, decimal, if◌then◌else◌, Option, Some, None, codes}
use Rattle.std.specs.Option.{option_map, option_and_then}
use Rattle.std.specs.List.{fold}
use Rattle.std.specs.Str.{bytes_eq}
use Rattle.edit_base.specs.declared.bounds.TheConstants.Limits.{METRIC}
use Rattle.edit_base.specs.declared.kinds.What.{What}
use Rattle.edit_base.specs.declared.kinds.What.TheVariants.{Tag, Face, Margin, Float, Watch}
use Rattle.edit_base.specs.declared.rows.NewSpan.{NewSpan}

-- a byte in front of the first word
abbrev pub into_word : ℕ → List (List ℕ) → List (List ℕ)
into_word byte [] = (byte ∷ []) ∷ []
into_word byte (word ∷ words) = (byte ∷ word) ∷ words

-- a text cut at each space
unfoldable pub words_of : List ℕ → List (List ℕ)
words_of [] = [] ∷ []
words_of (byte ∷ bytes) = if byte == 32 then [] ∷ words_of bytes else into_word byte (words_of bytes)

-- the number whose decimal digits these are: no sign, and no zero in front of another digit
abbrev pub digits_value : List ℕ → ℕ
digits_value text = fold (λ n digit. n * 10 + (digit - 48)) 0 text

abbrev pub whole_number : ℕ → List ℕ → Option ℕ
whole_number greatest text =
    if bytes_eq (decimal (digits_value text)) text && nat_le (digits_value text) greatest then Some (digits_value text) else None

-- the greatest number of a tag, an id, a place or a flags word, and of a face and a slot
abbrev pub greatest_id : ℕ
greatest_id = 4294967295

abbrev pub greatest_byte : ℕ
greatest_byte = 255

abbrev pub with_one : (ℕ → What) → ℕ → List ℕ → Option What
with_one make greatest number = option_map make (whole_number greatest number)

abbrev pub with_two : (ℕ → ℕ → What) → List ℕ → List ℕ → Option What
with_two make first second =
    option_and_then (λ a. option_map (λ b. make a b) (whole_number METRIC second)) (whole_number METRIC first)

-- a name and a number, or a name and two numbers
abbrev pub what_by_words : List (List ℕ) → Option What
what_by_words [] = None
what_by_words (name ∷ []) = None
what_by_words (name ∷ number ∷ []) =
    if bytes_eq name (codes "tag") then with_one Tag greatest_id number
    else (if bytes_eq name (codes "face") then with_one Face greatest_byte number
    else (if bytes_eq name (codes "watch") then with_one Watch greatest_byte number else None))
what_by_words (name ∷ first ∷ second ∷ []) =
    if bytes_eq name (codes "margin") then with_two Margin first second
    else (if bytes_eq name (codes "float") then with_two Float first second else None)
what_by_words (name ∷ first ∷ second ∷ third ∷ others) = None

-- what a span carries: `tag N`, `face N`, `margin N N`, `float N N` or `watch N`
abbrev pub as_what : List ℕ → Option What
as_what text = what_by_words (words_of text)

-- a span whose start isn't behind its end
abbrev pub ordered_span : ℕ → ℕ → ℕ → ℕ → What → Option NewSpan
ordered_span id start end flags what =
    if nat_le start end then Some (record { id = id; start = start; end = end; flags = flags; what = what }) else None

-- four numbers, and what the span carries
abbrev pub span_by_words : List (List ℕ) → Option NewSpan
span_by_words (id ∷ start ∷ end ∷ flags ∷ what) =
    option_and_then (λ a. option_and_then (λ b. option_and_then (λ c. option_and_then (λ d. option_and_then (λ it. ordered_span a b c d it)
    (what_by_words what)) (whole_number greatest_id flags)) (whole_number greatest_id end)) (whole_number greatest_id start)) (whole_number greatest_id id)
span_by_words _ = None

-- a span that a replacement brings: `ID START END FLAGS WHAT`
abbrev pub as_span : List ℕ → Option NewSpan
as_span text = span_by_words (words_of text)
