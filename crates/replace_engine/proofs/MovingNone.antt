-- A range that empties no span.
use Rattle.std.proofs.Common.{◌≡◌, ℕ, ◌&&◌, Bool, true, false, eqb, leb, ltb, List, [], ◌∷◌, refl, ap, arith}
use Rattle.std.specs.List.{AllByRecursion}
use Rattle.std.proofs.lemmas.Bool.{and_parts, eqb-true}
use Rattle.std.proofs.lemmas.Bool.Decides.{nat_tests}
use Rattle.edit_model.specs.Flags.{is_point_mark, kind_of}
use Rattle.edit_model.specs.State.{Span}
use Rattle.edit_model.specs.Replaced.{emptied_spans, is_emptied, kept_spans}
use Rattle.edit_model.proofs.SpanLists.{all_each}

empty_test : (some : Bool) (start end first last : ℕ) (rest : Bool) → start ≡ end
    → (some && ltb start end && leb start first && leb last end && rest) ≡ false
empty_test true start end first last rest same = grind (arith, nat_tests)
empty_test false start end first last rest same = refl

module _ (start end grown : ℕ) where
  -- none of the spans is emptied
  pub AreSpared : List Span → Type 0
  AreSpared spans = AllByRecursion (λ span. is_emptied start end grown span ≡ false) spans

  pub spared_by_none : start ≡ end → (spans : List Span) → AreSpared spans
  unfolding AreSpared
  spared_by_none same = all_each (λ span. is_emptied start end grown span ≡ false)
      (λ span. empty_test (is_point_mark (kind_of span.flags)) start end span.start span.end _ same)

  pub spared_kept : (spans : List Span) → AreSpared spans → spans ≡ kept_spans start end grown spans
  unfolding AreSpared
  spared_kept [] each = refl
  spared_kept (span ∷ spans) each = rw each.0 (ap (λ rest. span ∷ rest) (spared_kept spans each.1))

  pub spared_none : (spans : List Span) → AreSpared spans → [] ≡ emptied_spans start end grown spans
  unfolding AreSpared
  spared_none [] each = refl
  spared_none (span ∷ spans) each = rw each.0 (spared_none spans each.1)

-- of a range from which no unit goes
pub plain_start : (start end : ℕ) (rest : Bool) → (eqb start end && rest) ≡ true → start ≡ end
plain_start start end rest plain = eqb-true start end (and_parts (eqb start end) rest plain).0
