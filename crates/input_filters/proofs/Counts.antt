-- Counts of the units that pass a test, place by place.
use Rattle.std.proofs.Common.{◌≡◌, ℕ, ◌+◌, ◌≤◌, Bool, List, [], ◌∷◌, ◌++◌, length, get_or, refl, sym, ap, ◌∙◌, inl, inr, arith}
use Rattle.std.proofs.lemmas.Bool.{cases_lt}
use Rattle.std.proofs.lemmas.List.{get_or_append_left, get_or_push, length_push}
use Rattle.input_filters.specs.Kept.{count_before, AreCounts}

-- the counts at each place up to this one
pub record CountsTo (keep : ℕ → Bool) (units counts : List ℕ) (i : ℕ) : Type 0 where
  pub long : length counts ≡ i + 1
  pub each : (at : ℕ) → at ≤ i → get_or counts at 0 ≡ count_before keep units at

module _ (keep : ℕ → Bool) (units : List ℕ) where
  pub counts_none : CountsTo keep units (0 ∷ []) 0
  counts_none = record {
    long = refl;
    each = λ at first. none at (omega arith);
  }
    where
      none : (at : ℕ) → at ≡ 0 → get_or (0 ∷ []) at 0 ≡ count_before keep units at
      none at is = rw is refl

  -- the count at the next place goes behind the others
  pub counts_more : (counts : List ℕ) (i kept : ℕ) → CountsTo keep units counts i → kept ≡ count_before keep units (i + 1)
      → CountsTo keep units (counts ++ kept ∷ []) (i + 1)
  counts_more counts i kept so_far is = record {
    long = length_push counts kept ∙ ap (λ n. n + 1) so_far.long;
    each = λ at within. elim (cases_lt at (i + 1)) [
      | inl before ↦ get_or_append_left counts (kept ∷ []) 0 at (omega (arith, so_far.long)) ∙ so_far.each at (omega arith)
      | inr last ↦
          let here : at ≡ i + 1 = omega arith in
          get_or_push counts kept 0 at (so_far.long ∙ sym here) ∙ is ∙ ap (count_before keep units) (sym here)
    ];
  }

  pub counts_all : (counts : List ℕ) (i : ℕ) → i ≡ length units → CountsTo keep units counts i → AreCounts keep units counts
  counts_all counts i all so_far = record {
    long = so_far.long ∙ ap (λ n. n + 1) all;
    each = λ at within. so_far.each at (omega (arith, all));
  }
