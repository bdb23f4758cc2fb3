-- Where the ends of spans go when the units [s, e) of a text become n units.
use Rattle.std.proofs.Common.{◌≡◌, ◌≢◌, ◌⊎◌, ℕ, ◌+◌, ◌<◌, ◌≤◌, true, List, length, refl, ap, inl, inr, arith}
use Rattle.std.proofs.lemmas.Bool.{cases_lt, cases_eq}
use Rattle.std.proofs.lemmas.Bool.Decides.{nat_tests}
use Rattle.edit_model.proofs.Paragraphs.{next_within, next_least}
use Rattle.edit_model.specs.declared.kinds.Kind.{Kind}
use Rattle.edit_model.specs.declared.kinds.Kind.TheVariants.{MarkMark, MarkPoint, PointMark, PointPoint, Paragraph}
use Rattle.edit_model.specs.declared.kinds.EndKind.{EndKind}
use Rattle.edit_model.specs.declared.kinds.EndKind.TheVariants as end
use Rattle.edit_model.specs.Boundaries.{is_boundary, next_boundary}
use Rattle.edit_model.specs.Flags.{start_kind, end_kind, is_point_mark, is_paragraph}
use Rattle.edit_model.specs.Replaced.{spliced_length}
use Rattle.edit_model.specs.EndTable.{shifted, pulled, at_point, at_start, inside, at_end, end_of}

-- ---- the lines of the table

module _ (kind : EndKind) (x s e n : ℕ) (units : List ℕ) where
  end_before : x < s → end_of kind x s e n units ≡ x
  end_before before = grind (arith, nat_tests)

  end_behind : s ≤ e → e < x → end_of kind x s e n units ≡ shifted x s e n
  end_behind ordered behind = grind (arith, nat_tests)

  end_at_point : s ≡ e → x ≡ s → end_of kind x s e n units ≡ at_point kind x n units
  end_at_point empty at = grind (arith, nat_tests)

  end_at_start : s < e → x ≡ s → end_of kind x s e n units ≡ at_start kind s
  end_at_start some at = grind (arith, nat_tests)

  end_inside : s < x → x < e → end_of kind x s e n units ≡ inside kind s e n units
  end_inside behind before = grind (arith, nat_tests)

  end_at_end : s < e → x ≡ e → end_of kind x s e n units ≡ at_end kind s e n units
  end_at_end some at = grind (arith, nat_tests)

-- the line of the table for a place
pub data Line (x s e : ℕ) : Type 0 where
  before : x < s → Line x s e
  behind : e < x → Line x s e
  point : s ≡ e → x ≡ s → Line x s e
  at_first : s < e → x ≡ s → Line x s e
  amid : s < x → x < e → Line x s e
  at_last : s < e → x ≡ e → Line x s e

pub line_of : (x s e : ℕ) → s ≤ e → Line x s e
line_of x s e ordered =
    elim (cases_lt x s) [
      | inl lt ↦ before lt
      | inr ge ↦
          elim (cases_lt e x) [
            | inl lt ↦ behind lt
            | inr le ↦
                elim (cases_lt s e) [
                  | inr ge' ↦ point (omega arith) (omega arith)
                  | inl some ↦
                      elim (cases_eq x s) [
                        | inl at ↦ at_first some at
                        | inr other ↦
                            elim (cases_lt x e) [ inl lt ↦ amid (omega arith) lt | inr ge' ↦ at_last some (omega arith) ]
                      ]
                ]
          ]
    ]

-- ---- each kind of end, in as few cases as there are

module _ (x s e n : ℕ) (units : List ℕ) (ordered : s ≤ e) where
  -- before what is inserted at it
  pub mark_end : ((x ≤ s) × (end_of end.Mark x s e n units ≡ x))
      ⊎ (((s < x) × (x < e) × (end_of end.Mark x s e n units ≡ s)) ⊎ ((s < x) × (e ≤ x) × (end_of end.Mark x s e n units + e ≡ x + s + n)))
  mark_end = elim (line_of x s e ordered) [
    | before lt ↦ inl (omega arith, end_before end.Mark x s e n units lt)
    | behind gt ↦ inr (inr (omega arith, omega arith, omega (arith, end_behind end.Mark x s e n units ordered gt)))
    | point empty at ↦ inl (omega arith, end_at_point end.Mark x s e n units empty at)
    | at_first some at ↦ inl (omega arith, omega (arith, end_at_start end.Mark x s e n units some at))
    | amid gt lt ↦ inr (inl (gt, lt, end_inside end.Mark x s e n units gt lt))
    | at_last some at ↦ inr (inr (omega arith, omega arith, omega (arith, end_at_end end.Mark x s e n units some at)))
  ]

  -- behind what is inserted at it
  pub point_end : ((x ≤ s) × (x < e) × (end_of end.Point x s e n units ≡ x))
      ⊎ (((s < x) × (x < e) × (end_of end.Point x s e n units ≡ s + n)) ⊎ ((s ≤ x) × (e ≤ x) × (end_of end.Point x s e n units + e ≡ x + s + n)))
  point_end = elim (line_of x s e ordered) [
    | before lt ↦ inl (omega arith, omega arith, end_before end.Point x s e n units lt)
    | behind gt ↦ inr (inr (omega arith, omega arith, omega (arith, end_behind end.Point x s e n units ordered gt)))
    | point empty at ↦ inr (inr (omega arith, omega arith, omega (arith, end_at_point end.Point x s e n units empty at)))
    | at_first some at ↦ inl (omega arith, omega arith, omega (arith, end_at_start end.Point x s e n units some at))
    | amid gt lt ↦ inr (inl (gt, lt, end_inside end.Point x s e n units gt lt))
    | at_last some at ↦ inr (inr (omega arith, omega arith, omega (arith, end_at_end end.Point x s e n units some at)))
  ]

  -- at the boundaries of paragraphs
  pub paragraph_end : ((x ≤ s) × ((x < e) ⊎ (x ≢ length units)) × (end_of end.Paragraph x s e n units ≡ x))
      ⊎ (((s ≡ e) × (x ≡ s) × (x ≡ length units) × (end_of end.Paragraph x s e n units ≡ x + n))
      ⊎ (((e < x) × (end_of end.Paragraph x s e n units + e ≡ x + s + n))
      ⊎ ((s < x) × (x ≤ e) × (end_of end.Paragraph x s e n units ≡ pulled s e n units))))
  paragraph_end = elim (line_of x s e ordered) [
    | before lt ↦ inl (omega arith, inl (omega arith), end_before end.Paragraph x s e n units lt)
    | behind gt ↦ inr (inr (inl (omega arith, omega (arith, end_behind end.Paragraph x s e n units ordered gt))))
    | point empty at ↦ elim (cases_eq x (length units)) [
      | inl last ↦ inr (inl (empty, at, last, grind (arith, nat_tests, end_at_point end.Paragraph x s e n units empty at)))
      | inr other ↦ inl (omega arith, inr other, grind (arith, nat_tests, end_at_point end.Paragraph x s e n units empty at))
    ]
    | at_first some at ↦ inl (omega arith, inl (omega arith), omega (arith, end_at_start end.Paragraph x s e n units some at))
    | amid gt lt ↦ inr (inr (inr (gt, omega arith, end_inside end.Paragraph x s e n units gt lt)))
    | at_last some at ↦ inr (inr (inr (omega arith, omega arith, end_at_end end.Paragraph x s e n units some at)))
  ]

  pub pulled_end : e ≤ length units → (s + n ≤ pulled s e n units) × (pulled s e n units + e ≡ next_boundary units e + s + n)
  pulled_end within = omega (arith, next_within units e within)

-- ---- in the text, and in order

pub end_in_text : (kind : EndKind) (x s e n : ℕ) (units : List ℕ) → s ≤ e → e ≤ length units → x ≤ length units
    → end_of kind x s e n units ≤ spliced_length (length units) s e n
end_in_text end.Mark x s e n units ordered within below = omega (arith, mark_end x s e n units ordered)
end_in_text end.Point x s e n units ordered within below = omega (arith, point_end x s e n units ordered)
end_in_text end.Paragraph x s e n units ordered within below =
    omega (arith, paragraph_end x s e n units ordered, pulled_end x s e n units ordered within, next_within units e within)

module _ (x y s e n : ℕ) (units : List ℕ) (ordered : s ≤ e) where
  marks_in_order : x ≤ y → end_of end.Mark x s e n units ≤ end_of end.Mark y s e n units
  marks_in_order below = omega (arith, mark_end x s e n units ordered, mark_end y s e n units ordered)

  points_in_order : x ≤ y → end_of end.Point x s e n units ≤ end_of end.Point y s e n units
  points_in_order below = omega (arith, point_end x s e n units ordered, point_end y s e n units ordered)

  mark_before_point : x ≤ y → end_of end.Mark x s e n units ≤ end_of end.Point y s e n units
  mark_before_point below = omega (arith, mark_end x s e n units ordered, point_end y s e n units ordered)

  point_before_mark : x < y → ((s < e) × (s ≤ x) × (y ≤ e) × ((n ≡ 0) ⊎ ((s < x) ⊎ (y < e))) → ⊥)
      → end_of end.Point x s e n units < end_of end.Mark y s e n units
  point_before_mark below kept = grind (arith, point_end x s e n units ordered, mark_end y s e n units ordered)

  paragraphs_in_order : e ≤ length units → x < y → y ≤ length units → is_boundary units y ≡ true
      → end_of end.Paragraph x s e n units ≤ end_of end.Paragraph y s e n units
  paragraphs_in_order within below last bound =
      let least : (y ≤ e) ⊎ (next_boundary units e ≤ y) =
      elim (cases_lt e y) [ inl far ↦ inr (next_least units e within y far bound) | inr near ↦ inl near ] in
      omega (arith, paragraph_end x s e n units ordered, paragraph_end y s e n units ordered, next_within units e within)

-- the ends stay in order where the range doesn't empty the span
pub ends_in_order : (kind : Kind) (x y s e n : ℕ) (units : List ℕ) → s ≤ e → e ≤ length units → x ≤ y → y ≤ length units
    → (is_point_mark kind ≡ true → x < y)
    → (is_paragraph kind ≡ true → (is_boundary units x ≡ true) × (is_boundary units y ≡ true))
    → ((is_point_mark kind ≡ true) × (s < e) × (s ≤ x) × (y ≤ e) × ((n ≡ 0) ⊎ ((s < x) ⊎ (y < e))) → ⊥)
    → (end_of (start_kind kind) x s e n units ≤ end_of (end_kind kind) y s e n units)
    × (is_point_mark kind ≡ true → end_of (start_kind kind) x s e n units < end_of (end_kind kind) y s e n units)
ends_in_order MarkMark x y s e n units ordered within below last filled bounds kept = (marks_in_order x y s e n units ordered below, λ is. absurd (cc))
ends_in_order MarkPoint x y s e n units ordered within below last filled bounds kept = (mark_before_point x y s e n units ordered below, λ is. absurd (cc))
ends_in_order PointMark x y s e n units ordered within below last filled bounds kept =
    let lt = point_before_mark x y s e n units ordered (filled refl) (λ h. kept (refl, h.0, h.1, h.2, h.3)) in
    (omega arith, λ is. lt)
ends_in_order PointPoint x y s e n units ordered within below last filled bounds kept = (points_in_order x y s e n units ordered below, λ is. absurd (cc))
ends_in_order Paragraph x y s e n units ordered within below last filled bounds kept =
    (paragraphs_or_one x y s e n units ordered within below last (bounds refl).1, λ is. absurd (cc))
  where
    paragraphs_or_one : (x y s e n : ℕ) (units : List ℕ) → s ≤ e → e ≤ length units → x ≤ y → y ≤ length units → is_boundary units y ≡ true
        → end_of end.Paragraph x s e n units ≤ end_of end.Paragraph y s e n units
    paragraphs_or_one x y s e n units ordered within below last bound = elim (cases_eq x y) [
      | inl one ↦ omega (arith, ap (λ at. end_of end.Paragraph at s e n units) one)
      | inr two ↦ paragraphs_in_order x y s e n units ordered within (omega arith) last bound
    ]
