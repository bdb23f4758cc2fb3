-- Boundaries of paragraphs, and the next one behind a place.
use Rattle.std.proofs.Common.{◌≡◌, ◌⊎◌, ℕ, ◌+◌, ◌-◌, ◌<◌, ◌≤◌, ◌&&◌, ◌||◌, true, eqb, leb, List, length, get_or, drop, inl, inr, arith, length-drop}
use Rattle.std.specs.List.{position_or_len}
use Rattle.std.proofs.lemmas.Bool.{cases_lt, lt-ltb, le-ltb, eqb-true}
use Rattle.std.proofs.lemmas.Bool.Decides.{nat_tests}
use Rattle.std.proofs.lemmas.List.{get_or-drop}
use Rattle.std.proofs.lemmas.List.Sums.{prefix_len-le-length, fails_before_first, passes_at_first}
use Rattle.edit_model.specs.Boundaries.{is_boundary, is_newline, next_boundary}

-- what a boundary is, in plain facts
abbrev pub IsBoundary : List ℕ → ℕ → Type 0
IsBoundary units place = (place ≡ 0) ⊎ ((place ≡ length units) ⊎ ((place ≤ length units) × (get_or units (place - 1) 0 ≡ 10)))

tested : (p len unit : ℕ) → (eqb p 0 || eqb p len || (leb p len && eqb unit 10)) ≡ true → (p ≡ 0) ⊎ ((p ≡ len) ⊎ ((p ≤ len) × (unit ≡ 10)))
tested p len unit h = grind (arith, nat_tests)

passes : (p len unit : ℕ) → (p ≡ 0) ⊎ ((p ≡ len) ⊎ ((p ≤ len) × (unit ≡ 10))) → (eqb p 0 || eqb p len || (leb p len && eqb unit 10)) ≡ true
passes p len unit h = grind (arith, nat_tests)

pub boundary_tells : (units : List ℕ) (place : ℕ) → is_boundary units place ≡ true → IsBoundary units place
boundary_tells units place h = tested place (length units) (get_or units (place - 1) 0) h

pub boundary_from : (units : List ℕ) (place : ℕ) → IsBoundary units place → is_boundary units place ≡ true
boundary_from units place h = passes place (length units) (get_or units (place - 1) 0) h

-- how many units stand before the first newline from a place on
first_newline : List ℕ → ℕ → ℕ
first_newline units place = position_or_len is_newline (drop place units)

module _ (units : List ℕ) (place : ℕ) where
  next_found : first_newline units place < length (drop place units) → next_boundary units place ≡ place + first_newline units place + 1
  unfolding first_newline
  next_found some = rw (lt-ltb _ _ some)

  next_missed : length (drop place units) ≤ first_newline units place → next_boundary units place ≡ length units
  unfolding first_newline
  next_missed none = rw (le-ltb _ _ none)

  newline_at_first : first_newline units place < length (drop place units) → get_or units (place + first_newline units place) 0 ≡ 10
  unfolding first_newline
  newline_at_first some =
      rw get_or-drop at (eqb-true _ _ (passes_at_first is_newline (drop place units) 0 some))

  none_before_first : (k : ℕ) → k < first_newline units place → get_or units (place + k) 0 ≡ 10 → ⊥
  unfolding first_newline
  none_before_first k before is =
      let f = fails_before_first is_newline (drop place units) k 0 before in
      absurd (grind (arith, nat_tests, get_or-drop))

  first_within : first_newline units place ≤ length (drop place units)
  unfolding first_newline
  first_within = prefix_len-le-length _ (drop place units)

  -- the next boundary is the end, or a newline stands right before it
  pub next_cases : (next_boundary units place ≡ length units)
      ⊎ ((place < next_boundary units place) × (next_boundary units place ≤ length units) × (get_or units (next_boundary units place - 1) 0 ≡ 10))
  next_cases = elim (cases_lt (first_newline units place) (length (drop place units))) [
    | inr none ↦ inl (next_missed none)
    | inl some ↦
        let f = next_found some in
        let at : next_boundary units place - 1 ≡ place + first_newline units place = omega arith in
        inr (omega arith, omega (arith, length-drop place units), rw at (newline_at_first some))
  ]

  pub next_within : place ≤ length units → (place ≤ next_boundary units place) × (next_boundary units place ≤ length units)
  next_within within = omega (arith, next_cases)

  next_least_newline : (at : ℕ) → place < at → at ≤ length units → get_or units (at - 1) 0 ≡ 10 → next_boundary units place ≤ at
  next_least_newline at behind within is =
      let k : ℕ = at - 1 - place in
      let e : place + k ≡ at - 1 = omega arith in
      elim (cases_lt k (first_newline units place)) [
        | inl before ↦ absurd (none_before_first k before (rw e is))
        | inr reached ↦
            let some : first_newline units place < length (drop place units) = omega (arith, length-drop place units) in
            omega (arith, next_found some)
      ]

  pub next_least : place ≤ length units → (at : ℕ) → place < at → is_boundary units at ≡ true → next_boundary units place ≤ at
  next_least within at behind bound = elim (boundary_tells units at bound) [
    | inl zero ↦ absurd (omega arith)
    | inr rest ↦ elim rest [
      | inl last ↦ omega (arith, next_within within)
      | inr newline ↦ next_least_newline at behind newline.0 newline.1
    ]
  ]

  pub next_is_boundary : is_boundary units (next_boundary units place) ≡ true
  next_is_boundary = elim next_cases [
    | inl last ↦ boundary_from units (next_boundary units place) (inr (inl last))
    | inr newline ↦ boundary_from units (next_boundary units place) (inr (inr (newline.1, newline.2)))
  ]

  pub next_behind : place < length units → place < next_boundary units place
  next_behind before = omega (arith, next_cases)
