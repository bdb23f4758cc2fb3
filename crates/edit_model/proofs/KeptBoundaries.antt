-- Paragraph ends stay at boundaries.
use Rattle.std.proofs.Common.{◌≡◌, ◌≢◌, ℕ, ◌+◌, ◌-◌, ◌<◌, ◌≤◌, true, List, length, sym, subst, ◌∙◌, inl, inr, arith}
use Rattle.std.proofs.lemmas.Bool.{cases_eq}
use Rattle.edit_model.specs.declared.kinds.EndKind.TheVariants as end
use Rattle.edit_model.specs.Boundaries.{is_boundary, next_boundary}
use Rattle.edit_model.specs.EndTable.{pulled, end_of}
use Rattle.edit_model.specs.Replaced.{spliced}
use Rattle.edit_model.proofs.Paragraphs.{IsBoundary, boundary_tells, boundary_from, next_cases, next_within}
use Rattle.edit_model.proofs.Ends.{paragraph_end}
use Rattle.edit_model.proofs.Splices.{length-spliced, unit_before, unit_behind}

module _ (units : List ℕ) (s e : ℕ) (brought : List ℕ) (ordered : s ≤ e) (within : e ≤ length units) where
  -- a boundary not behind the range's start stays, but for the end of a text that grows there
  boundary_before : (x : ℕ) → x ≤ s → x ≢ length units → IsBoundary units x → IsBoundary (spliced units s e brought) x
  boundary_before x below other bound = elim bound [
    | inl zero ↦ inl zero
    | inr rest ↦ elim rest [
      | inl last ↦ absurd (other last)
      | inr newline ↦ elim (cases_eq x 0) [
        | inl zero ↦ inl zero
        | inr positive ↦ inr (inr (
          omega (arith, length-spliced units s e brought ordered within),
          unit_before units s e brought ordered within (x - 1) (omega arith) ∙ newline.1,
        ))
      ]
    ]
  ]

  -- the end of the text stays the end
  boundary_last : (at : ℕ) → at + e ≡ length units + s + length brought → IsBoundary (spliced units s e brought) at
  boundary_last at moved = inr (inl (omega (arith, length-spliced units s e brought ordered within)))

  -- a boundary behind the range goes on with its newline
  boundary_behind : (x at : ℕ) → e < x → at + e ≡ x + s + length brought → IsBoundary units x → IsBoundary (spliced units s e brought) at
  boundary_behind x at far moved bound = elim bound [
    | inl zero ↦ absurd (omega arith)
    | inr rest ↦ elim rest [
      | inl last ↦ boundary_last at (omega arith)
      | inr newline ↦ inr (inr (
        omega (arith, length-spliced units s e brought ordered within),
        unit_behind units s e brought ordered within (x - 1) (at - 1) (omega arith) (omega arith) ∙ newline.1,
      ))
    ]
  ]

  boundary_pulled : (at : ℕ) → at ≡ pulled s e (length brought) units → IsBoundary (spliced units s e brought) at
  boundary_pulled at is =
      let moved : at + e ≡ next_boundary units e + s + length brought = omega (arith, next_within units e within) in
      elim (next_cases units e) [
        | inl last ↦ boundary_last at (omega arith)
        | inr newline ↦ boundary_behind (next_boundary units e) at newline.0 moved (inr (inr (newline.1, newline.2)))
      ]

  pub boundary_kept : (x : ℕ) → is_boundary units x ≡ true → is_boundary (spliced units s e brought) (end_of end.Paragraph x s e (length brought) units) ≡ true
  boundary_kept x is =
      let bound = boundary_tells units x is in
      let at : ℕ = end_of end.Paragraph x s e (length brought) units in
      boundary_from (spliced units s e brought) at (elim (paragraph_end x s e (length brought) units ordered) [
        | inl stays ↦ subst (IsBoundary (spliced units s e brought)) (sym stays.2) (boundary_before x stays.0 (omega arith) bound)
        | inr rest ↦ elim rest [
          | inl grows ↦ boundary_last at (omega arith)
          | inr more ↦ elim more [
            | inl shifts ↦ boundary_behind x at shifts.0 shifts.1 bound
            | inr goes ↦ boundary_pulled at goes.2
          ]
        ]
      ])
