-- One more character counted, back or on; and the ends of the text, where counting stops.
use Rattle.std.proofs.Common.{◌≡◌, ◌≤◌, ◌<◌, ℕ, zero, suc, ◌+◌, ◌-◌, List, length, Some, None, refl, sym, ap, ◌∙◌, arith}
use Rattle.std.specs.Option.{option_and_then, option_map_or}
use Rattle.std.proofs.lemmas.Bool.Decides.{nat_tests}
use Rattle.trace_model.specs.Items.{width_before, width_at, counted_back, counted_on}
use Rattle.input_link.specs.Looked.{looked_back, looked_on}

module _ (units : List ℕ) where
  pub back_one : (left place width : ℕ) → 0 < left → width_before units place ≡ Some width
      → counted_back units (left - 1) (place - width) ≡ counted_back units left place
  back_one zero place width some is = absurd (omega arith)
  back_one (suc left) place width some is =
      let less : suc left - 1 ≡ left = omega arith in
      rw less (sym (ap (option_and_then (λ w. counted_back units left (place - w))) is))

  pub back_lone : (left place : ℕ) → 0 < left → width_before units place ≡ None → counted_back units left place ≡ None
  back_lone zero place some is = absurd (omega arith)
  back_lone (suc left) place some is = ap (option_and_then (λ w. counted_back units left (place - w))) is

  -- the units of that character are looked at, or the lone half
  pub back_looked : (left place width : ℕ) → 0 < left → width_before units place ≡ Some width
      → looked_back units left place ≡ width + looked_back units (left - 1) (place - width)
  back_looked zero place width some is = absurd (omega arith)
  back_looked (suc left) place width some is =
      let less : suc left - 1 ≡ left = omega arith in
      rw less (ap (λ one. option_map_or (λ w. w + looked_back units left (place - w)) one 1) is)

  pub back_looked_lone : (left place : ℕ) → 0 < left → width_before units place ≡ None → looked_back units left place ≡ 1
  back_looked_lone zero place some is = absurd (omega arith)
  back_looked_lone (suc left) place some is = ap (λ one. option_map_or (λ w. w + looked_back units left (place - w)) one 1) is

  start : width_before units 0 ≡ Some 0
  unfolding width_before
  start = refl

  pub back_end : (left : ℕ) → counted_back units left 0 ≡ Some 0
  back_end zero = refl
  back_end (suc left) = ap (option_and_then (λ w. counted_back units left (0 - w))) start ∙ back_end left

  pub on_one : (left place width : ℕ) → 0 < left → width_at units place ≡ Some width
      → counted_on units (left - 1) (place + width) ≡ counted_on units left place
  on_one zero place width some is = absurd (omega arith)
  on_one (suc left) place width some is =
      let less : suc left - 1 ≡ left = omega arith in
      rw less (sym (ap (option_and_then (λ w. counted_on units left (place + w))) is))

  pub on_lone : (left place : ℕ) → 0 < left → width_at units place ≡ None → counted_on units left place ≡ None
  on_lone zero place some is = absurd (omega arith)
  on_lone (suc left) place some is = ap (option_and_then (λ w. counted_on units left (place + w))) is

  pub on_looked : (left place width : ℕ) → 0 < left → width_at units place ≡ Some width
      → looked_on units left place ≡ width + looked_on units (left - 1) (place + width)
  on_looked zero place width some is = absurd (omega arith)
  on_looked (suc left) place width some is =
      let less : suc left - 1 ≡ left = omega arith in
      rw less (ap (λ one. option_map_or (λ w. w + looked_on units left (place + w)) one 1) is)

  pub on_looked_lone : (left place : ℕ) → 0 < left → width_at units place ≡ None → looked_on units left place ≡ 1
  on_looked_lone zero place some is = absurd (omega arith)
  on_looked_lone (suc left) place some is = ap (λ one. option_map_or (λ w. w + looked_on units left (place + w)) one 1) is

  past : (place : ℕ) → length units ≤ place → width_at units place ≡ Some 0
  unfolding width_at
  past place le = grind (arith, nat_tests)

  pub on_end : (left place : ℕ) → length units ≤ place → counted_on units left place ≡ Some place
  on_end zero place le = refl
  on_end (suc left) place le =
      let same : place + 0 ≡ place = omega arith in
      ap (option_and_then (λ w. counted_on units left (place + w))) (past place le) ∙ rw same (on_end left place le)
