-- Lengths and units of replaced texts.
use Rattle.std.proofs.Common.{◌≡◌, ℕ, ◌+◌, ◌-◌, ◌<◌, ◌≤◌, List, length, get_or, take, drop, ◌++◌, arith, ◌∙◌, ap, length-append, length-drop, length-take}
use Rattle.std.proofs.lemmas.List.{get_or_append_left, get_or-append_right, get_or-take, get_or-drop}
use Rattle.edit_model.specs.Replaced.{spliced, spliced_length}

pub length-spliced : (units : List ℕ) (s e : ℕ) (brought : List ℕ) → s ≤ e → e ≤ length units
    → length (spliced units s e brought) ≡ spliced_length (length units) s e (length brought)
length-spliced units s e brought ordered within =
    omega (arith, length-append (take s units ++ brought) (drop e units), length-append (take s units) brought, length-take s units, length-drop e units)

module _ (units : List ℕ) (s e : ℕ) (brought : List ℕ) (ordered : s ≤ e) (within : e ≤ length units) where
  -- the units before the range stay
  pub unit_before : (i : ℕ) → i < s → get_or (spliced units s e brought) i 0 ≡ get_or units i 0
  unit_before i before =
      get_or_append_left (take s units ++ brought) (drop e units) 0 i (omega (arith, length-append (take s units) brought, length-take s units))
      ∙ get_or_append_left (take s units) brought 0 i (omega (arith, length-take s units)) ∙ get_or-take s units i 0 before

  -- the units behind the range stay, further on
  pub unit_behind : (i at : ℕ) → e ≤ i → at + e ≡ i + s + length brought → get_or (spliced units s e brought) at 0 ≡ get_or units i 0
  unit_behind i at behind moved =
      let front : length (take s units ++ brought) ≡ s + length brought = omega (arith, length-append (take s units) brought, length-take s units) in
      let place : e + (at - (s + length brought)) ≡ i = omega arith in
      get_or-append_right (take s units ++ brought) (drop e units) (s + length brought) at 0 front (omega arith)
      ∙ get_or-drop e units (at - (s + length brought)) 0 ∙ ap (λ j. get_or units j 0) place

  -- between them stand those brought
  pub unit_among : (i : ℕ) → i < length brought → get_or (spliced units s e brought) (s + i) 0 ≡ get_or brought i 0
  unit_among i among =
      let front : length (take s units) ≡ s = omega (arith, length-take s units) in
      let place : s + i - s ≡ i = omega arith in
      get_or_append_left (take s units ++ brought) (drop e units) 0 (s + i) (omega (arith, length-append (take s units) brought, front))
      ∙ get_or-append_right (take s units) brought s (s + i) 0 front (omega arith) ∙ ap (λ j. get_or brought j 0) place
