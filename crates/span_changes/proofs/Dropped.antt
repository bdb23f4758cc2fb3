-- The spans that a drop takes, by how many are part of a composing text.
use Rattle.std.proofs.Common.{◌≡◌, ℕ, ◌+◌, ◌&&◌, ◌||◌, Bool, true, false, not, cond, eqb, ltb, List, [], ◌∷◌, length, refl, sym, ap, ◌∙◌, arith, Some, inl, inr}
use Rattle.std.specs.List.{AllByRecursion, filter, list_any}
use Rattle.std.proofs.lemmas.Bool.{cases_Bool}
use Rattle.std.proofs.lemmas.Bool.Decides.{nat_tests}
use Rattle.edit_model.specs.State.{Span}
use Rattle.edit_model.specs.Flags.{is_composing}
use Rattle.edit_model.specs.Attached.{has_id, is_attached, spans_of, without_span}
use Rattle.edit_model.specs.Selection.{is_dropped}
use Rattle.edit_model.specs.WellFormed.{HasDistinctIds}
use Rattle.edit_model.proofs.SpanLists.{all-weaker, all_fail}
use Rattle.span_table.specs.Table.{row_place, span_at}
use Rattle.span_changes.proofs.Lists.{any_counted, filter_alike}
use Rattle.span_changes.proofs.Spans.{absent_found, found_there}

-- ---- tests of lists

module _ {X : Type 0} (p q : X → Bool) where
  either_first : (a b c d : Bool) → ((a || b) || (c || d)) ≡ ((a || c) || (b || d))
  either_first true b c d = refl
  either_first false true true d = refl
  either_first false true false d = refl
  either_first false false c d = refl

  any_either : (xs : List X) → list_any (λ x. p x || q x) xs ≡ (list_any p xs || list_any q xs)
  any_either [] = refl
  any_either (x ∷ xs) =
      ap (λ rest. (p x || q x) || rest) (any_either xs) ∙ either_first (p x) (q x) (list_any p xs) (list_any q xs)

  filter_both : (xs : List X) → filter (λ x. p x && q x) xs ≡ filter q (filter p xs)
  filter_both [] = refl
  filter_both (x ∷ xs) = elim (cases_Bool (p x)) [
    | inl is ↦ rw (is, filter_both xs) refl
    | inr is ↦ rw is (filter_both xs)
  ]

  one_more : (a b : Bool) (x : X) (all both rest : List X) → length all ≡ length both + length rest
      → length (cond b (x ∷ all) all) ≡ length (cond (a && b) (x ∷ both) both) + length (cond (not a && b) (x ∷ rest) rest)
  one_more true true x all both rest is = omega (arith, is)
  one_more true false x all both rest is = is
  one_more false true x all both rest is = omega (arith, is)
  one_more false false x all both rest is = is

  -- those that pass a test are those that pass another one too, and the rest
  counted_apart : (xs : List X) → length (filter q xs) ≡ length (filter (λ x. p x && q x) xs) + length (filter (λ x. not (p x) && q x) xs)
  counted_apart [] = refl
  counted_apart (x ∷ xs) = one_more (p x) (q x) x (filter q xs) (filter (λ y. p y && q y) xs) (filter (λ y. not (p y) && q y) xs) (counted_apart xs)

-- ---- spans of a composing text

abbrev pub is_part : Span → Bool
is_part span = is_composing span.flags

-- a drop takes the region, or one of those
region_or_part : (spans : List Span) → (is_attached 2 spans || list_any is_part spans) ≡ list_any is_dropped spans
region_or_part spans = sym (any_either (has_id 2) is_part spans)

pub dropped_region : (spans : List Span) → is_attached 2 spans ≡ true → true ≡ list_any is_dropped spans
dropped_region spans attached = sym (ap (λ first. first || list_any is_part spans) attached) ∙ region_or_part spans

pub any_dropped : (spans : List Span) (some : Bool) → is_attached 2 spans ≡ false → some ≡ ltb 0 (length (filter is_part spans))
    → some ≡ list_any is_dropped spans
any_dropped spans some absent is =
    is ∙ any_counted is_part spans ∙ sym (ap (λ first. first || list_any is_part spans) absent) ∙ region_or_part spans

-- one span of an id is one of those, or none
pub region_counted : (spans : List Span) (at : ℕ) → HasDistinctIds spans → row_place 2 spans ≡ Some at
    → cond (is_part (span_at spans at)) 1 0 ≡ length (filter (λ span. has_id 2 span && is_part span) spans)
region_counted spans at distinct is =
    one_or_none (is_part (span_at spans at))
    ∙ sym (ap length (filter_both (has_id 2) is_part spans ∙ ap (filter is_part) (found_there 2 spans at distinct is)))
  where
    one_or_none : (passes : Bool) → cond passes 1 0 ≡ length (cond passes (span_at spans at ∷ []) [])
    one_or_none true = refl
    one_or_none false = refl

pub none_counted : (spans : List Span) → is_attached 2 spans ≡ false → 0 ≡ length (filter (λ span. has_id 2 span && is_part span) spans)
none_counted spans absent =
    sym (ap length (filter_both (has_id 2) is_part spans ∙ ap (filter is_part) (absent_found 2 spans absent)))

abbrev pub is_other : Span → Bool
is_other span = not (has_id 2 span) && is_part span

-- no span but the region is one
abbrev pub is_alone : List Span → Bool
is_alone spans = not (list_any is_other spans)

-- where there are no more of them than the region, no other span is one
pub region_alone : (spans : List Span) (count own : ℕ) → count ≡ length (filter is_part spans)
    → own ≡ length (filter (λ span. has_id 2 span && is_part span) spans) → eqb count own ≡ is_alone spans
region_alone spans count own all region =
    no_rest count own (length (filter is_other spans)) (list_any is_other spans)
    (all ∙ counted_apart (has_id 2) is_part spans ∙ ap (λ n. n + length (filter is_other spans)) (sym region))
    (any_counted is_other spans)
  where
    no_rest : (all own rest : ℕ) (some : Bool) → all ≡ own + rest → ltb 0 rest ≡ some → eqb all own ≡ not some
    no_rest all own rest true is any = grind (arith, nat_tests)
    no_rest all own rest false is any = grind (arith, nat_tests)

module _ (spans : List Span) (alone : is_alone spans ≡ true) where
  none_other : list_any is_other spans ≡ false
  none_other = refused (list_any is_other spans) alone
    where
      refused : (some : Bool) → not some ≡ true → some ≡ false
      refused true is = sym is
      refused false is = refl

  only_region : AllByRecursion (λ span. is_dropped span ≡ has_id 2 span) spans
  only_region = all-weaker (λ span. is_other span ≡ false) (λ span. is_dropped span ≡ has_id 2 span)
      (λ span other. no_other (has_id 2 span) (is_part span) other) spans (all_fail is_other spans none_other)
    where
      no_other : (first second : Bool) → (not first && second) ≡ false → (first || second) ≡ first
      no_other true second is = refl
      no_other false second is = is

  -- a drop takes the region alone
  pub region_goes : spans_of 2 spans ≡ filter is_dropped spans
  region_goes = sym (filter_alike is_dropped (has_id 2) spans only_region)

  pub others_stay : without_span 2 spans ≡ filter (λ span. not (is_dropped span)) spans
  others_stay = sym (filter_alike (λ span. not (is_dropped span)) (λ span. not (has_id 2 span)) spans
      (all-weaker (λ span. is_dropped span ≡ has_id 2 span) (λ span. not (is_dropped span) ≡ not (has_id 2 span))
      (λ span same. ap not same) spans only_region))
