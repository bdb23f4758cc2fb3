-- What filters keep, and where they take places.
use Rattle.std.proofs.Common.{◌≡◌, ℕ, ◌+◌, ◌-◌, ◌<◌, ◌≤◌, ◌&&◌, Bool, true, false, not, cond, leb, ltb, List, [], ◌∷◌, map, length, take}
use Rattle.std.proofs.Common.{drop, get_or, min, refl, sym, ap, ◌∙◌, arith, length-append, length-take}
use Rattle.std.specs.Prelude.{slice_index}
use Rattle.std.specs.List.{All, filter, fold}
use Rattle.std.proofs.lemmas.Bool.{leb-true, leb-false, ltb-true, lt-leb, and_parts, and_left}
use Rattle.std.proofs.lemmas.List.{length-map, take-append-drop, take-take}
use Rattle.std.proofs.lemmas.List.Elements.{All-map, filter-append}
use Rattle.std.proofs.lemmas.List.Filters.{length-filter_both}
use Rattle.edit_base.specs.declared.rows.Incoming.{Incoming}
use Rattle.edit_base.specs.declared.rows.NewSpan.{NewSpan}
use Rattle.edit_model.specs.declared.filters.Filter.{Filter}
use Rattle.edit_model.specs.declared.filters.Filter.TheVariants.{Length, AsciiUpper, Allow, NoNewline}
use Rattle.edit_model.specs.Brought.{IsOrdered}
use Rattle.edit_model.specs.Filtered.{is_high, is_low, kept_first, is_allowed, is_no_newline, upper, passed, kept_before, at_places, clipped, through, filtered}
use Rattle.edit_model.specs.Laws.{FiltersBrought}

-- ---- a length filter

-- no more are kept than there are, and no more than fit; all, where they fit
abbrev IsFirst : ℕ → ℕ → ℕ → Type 0
IsFirst kept all fit = (kept ≤ all) × (kept ≤ fit)

first_of_all : (fits high : Bool) (all fit : ℕ) → leb all fit ≡ fits → IsFirst (cond fits all (cond high (fit - 1) fit)) all fit
first_of_all true high all fit is = let few = leb-true _ _ is in (omega arith, omega arith)
first_of_all false true all fit is = let more = leb-false _ _ is in (omega arith, omega arith)
first_of_all false false all fit is = let more = leb-false _ _ is in (omega arith, omega arith)

pub kept_first_of_all : (fit : ℕ) (units : List ℕ) → IsFirst (kept_first fit units) (length units) fit
kept_first_of_all fit units = first_of_all (leb (length units) fit) (is_high (get_or units (fit - 1) 0)) (length units) fit refl

high_is_not_low : (unit : ℕ) → is_high unit ≡ true → is_low unit ≡ false
high_is_not_low unit high =
    let parts = and_parts (leb 55296 unit) (ltb unit 56320) high in
    let below = ltb-true _ _ parts.1 in
    and_left (leb 56320 unit) (ltb unit 57344) (lt-leb 56320 unit (omega arith))

-- the last unit that is kept is no high surrogate, or the next one is high, so that the two are no pair
cut_at : (high : Bool) (fit : ℕ) (units : List ℕ) (at : ℕ) → is_high (get_or units (fit - 1) 0) ≡ high → at + 1 ≡ cond high (fit - 1) fit
    → (is_high (get_or units at 0) && is_low (get_or units (at + 1) 0)) ≡ false
cut_at true fit units at is cut = rw (high_is_not_low (get_or units (at + 1) 0) (ap (λ i. is_high (get_or units i 0)) cut ∙ is))
    (never (is_high (get_or units at 0)))
  where
    never : (test : Bool) → (test && false) ≡ false
    never true = refl
    never false = refl
cut_at false fit units at is cut =
    let last : at ≡ fit - 1 = omega arith in
    and_left (is_high (get_or units at 0)) (is_low (get_or units (at + 1) 0)) (ap (λ i. is_high (get_or units i 0)) last ∙ is)

pair_whole : (fits : Bool) (fit : ℕ) (units : List ℕ) (at : ℕ) → leb (length units) fit ≡ fits
    → at + 1 ≡ cond fits (length units) (cond (is_high (get_or units (fit - 1) 0)) (fit - 1) fit) → at + 1 < length units
    → (is_high (get_or units at 0) && is_low (get_or units (at + 1) 0)) ≡ false
pair_whole true fit units at is cut before = absurd (omega arith)
pair_whole false fit units at is cut before = cut_at (is_high (get_or units (fit - 1) 0)) fit units at refl cut

-- where a length filter cuts, the units on both sides are no pair
pub cuts_no_pair : (greatest others : ℕ) (units : List ℕ) (at : ℕ) → at + 1 ≡ length (passed (Length greatest) others units) → at + 1 < length units
    → (is_high (slice_index units at) && is_low (slice_index units (at + 1))) ≡ false
cuts_no_pair greatest others units at cut before =
    let kept = kept_first_of_all (greatest - others) units in
    pair_whole (leb (length units) (greatest - others)) (greatest - others) units at refl
    (omega (arith, length-take (kept_first (greatest - others) units) units)) before

-- ---- a filter of units

not_not : (test : Bool) → not (not test) ≡ test
not_not true = refl
not_not false = refl

module _ (keep : ℕ → Bool) where
  filter-take-le_all : (units : List ℕ) (x : ℕ) → length (filter keep (take x units)) ≤ length (filter keep units)
  filter-take-le_all units x =
      let whole = ap (filter keep) (take-append-drop x units) in
      let parts = filter-append keep (take x units) (drop x units) in
      omega (arith, ap length (sym parts ∙ whole), length-append (filter keep (take x units)) (filter keep (drop x units)))

  filter_within : (units : List ℕ) → length (filter keep units) ≤ length units
  filter_within units = omega (arith, length-filter_both (λ unit. not (keep unit)) keep (λ unit. sym (not_not (keep unit))) units)

  filter-take-le : (units : List ℕ) (x y : ℕ) → x ≤ y → length (filter keep (take x units)) ≤ length (filter keep (take y units))
  filter-take-le units x y before =
      omega (arith, ap (λ front. length (filter keep front)) (take-take x y units before), filter-take-le_all (take y units) x)

-- a filter that drops none drops none of the first
drops_none : (keep : ℕ → Bool) (units : List ℕ) (x : ℕ) → length (filter keep units) ≡ length units → x ≤ length units → length (filter keep (take x units)) ≡ x
drops_none keep units x all within =
    let dropped = λ (unit : ℕ). not (keep unit) in
    let both = length-filter_both dropped keep (λ unit. sym (not_not (keep unit))) in
    omega (arith, both units, both (take x units), filter-take-le_all dropped units x, length-take x units)

-- ---- one filter

pub takes_places : (it : Filter) (others : ℕ) (units : List ℕ) (x y : ℕ) → x ≤ y
    → (kept_before it others units x ≤ kept_before it others units y) × (kept_before it others units y ≤ length (passed it others units))
takes_places (Length greatest) others units x y before =
    let kept = kept_first_of_all (greatest - others) units in
    (omega arith, omega (arith, length-take (kept_first (greatest - others) units) units))
takes_places AsciiUpper others units x y before =
    (omega (arith, length-take x units, length-take y units), omega (arith, length-take y units, length-map units upper))
takes_places (Allow ranges) others units x y before = (filter-take-le (is_allowed ranges) units x y before, filter-take-le_all (is_allowed ranges) units y)
takes_places NoNewline others units x y before = (filter-take-le is_no_newline units x y before, filter-take-le_all is_no_newline units y)

pub leaves_places : (it : Filter) (others : ℕ) (units : List ℕ) (x : ℕ) → length (passed it others units) ≡ length units → x ≤ length units
    → kept_before it others units x ≡ x
leaves_places (Length greatest) others units x all within = omega (arith, all, length-take (kept_first (greatest - others) units) units)
leaves_places AsciiUpper others units x all within = omega (arith, length-take x units)
leaves_places (Allow ranges) others units x all within = drops_none (is_allowed ranges) units x all within
leaves_places NoNewline others units x all within = drops_none is_no_newline units x all within

-- no filter makes a text longer
pub passed_within : (it : Filter) (others : ℕ) (units : List ℕ) → length (passed it others units) ≤ length units
passed_within (Length greatest) others units = omega (arith, length-take (kept_first (greatest - others) units) units)
passed_within AsciiUpper others units = omega (arith, length-map units upper)
passed_within (Allow ranges) others units = filter_within (is_allowed ranges) units
passed_within NoNewline others units = filter_within is_no_newline units

-- ---- all filters

-- what comes, from so many units and spans: it is no longer, each span is still there, in order and in the text
pub record ComesOf (most count : ℕ) (region : Bool) (incoming : Incoming) : Type 0 where
  pub units : length incoming.units ≤ most
  pub spans : length incoming.spans ≡ count
  pub ordered : All IsOrdered incoming.spans
  pub inside : All (λ span. span.end ≤ length incoming.units) incoming.spans
  pub composing : incoming.composing ≡ region

module _ (to : ℕ → ℕ) (in_order : (x y : ℕ) → x ≤ y → to x ≤ to y) where
  ordered_at : (spans : List NewSpan) → All IsOrdered spans → All IsOrdered (map (at_places to) spans)
  ordered_at spans ordered = All-map IsOrdered (at_places to) spans (λ i blank below. in_order _ _ (ordered i blank below))

inside_at : (to : ℕ → ℕ) (end : ℕ) → ((x : ℕ) → to x ≤ end) → (spans : List NewSpan) → All (λ span. span.end ≤ end) (map (at_places to) spans)
inside_at to end within spans = All-map (λ span. span.end ≤ end) (at_places to) spans (λ i blank below. within _)

pub comes-clipped : (incoming : Incoming) → All IsOrdered incoming.spans
    → ComesOf (length incoming.units) (length incoming.spans) incoming.composing (clipped incoming)
comes-clipped incoming ordered =
    let to = λ (at : ℕ). min at (length incoming.units) in
    record {
      units = omega arith;
      spans = length-map incoming.spans (at_places to);
      ordered = ordered_at to (λ x y before. omega arith) incoming.spans ordered;
      inside = inside_at to (length incoming.units) (λ x. omega arith) incoming.spans;
      composing = refl;
    }

module _ {most count : ℕ} {region : Bool} (others : ℕ) where
  pub comes-through : (incoming : Incoming) (it : Filter) → ComesOf most count region incoming → ComesOf most count region (through others incoming it)
  comes-through incoming it comes =
      let to = kept_before it others incoming.units in
      record {
        units = omega (arith, comes.units, passed_within it others incoming.units);
        spans = length-map incoming.spans (at_places to) ∙ comes.spans;
        ordered = ordered_at to (λ x y before. (takes_places it others incoming.units x y before).0) incoming.spans comes.ordered;
        inside = inside_at to (length (passed it others incoming.units)) (λ x. (takes_places it others incoming.units x x (omega arith)).1) incoming.spans;
        composing = comes.composing;
      }

  pub comes-fold : (filters : List Filter) (incoming : Incoming) → ComesOf most count region incoming
      → ComesOf most count region (fold (through others) incoming filters)
  comes-fold [] incoming comes = comes
  comes-fold (it ∷ filters) incoming comes = comes-fold filters (through others incoming it) (comes-through incoming it comes)

-- filtered, what a replacement brings is still what it may bring, with every span in the text that comes
pub brought-filtered : FiltersBrought
unfolding filtered
brought-filtered filters incoming length_before s e brought =
    let comes = comes-fold (length_before - (e - s)) filters (clipped incoming) (comes-clipped incoming brought.ordered) in (
      record {
        units = omega (arith, comes.units, brought.units);
        spans = omega (arith, comes.spans, brought.spans);
        ordered = comes.ordered;
      },
      comes.units,
      comes.spans,
      comes.inside,
    )
