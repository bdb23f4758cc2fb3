-- A span that is kept by a replacement lies over the new text.
use Rattle.std.proofs.Common.{◌≡◌, ◌⊎◌, ℕ, ◌+◌, ◌-◌, ◌*◌, ◌/◌, ◌<◌, ◌≤◌, ◌&&◌, ◌||◌, Bool, true, false, cond, eqb, ltb, leb, List, length, refl, sym, ap, ◌∙◌, subst, inl, inr, arith}
use Rattle.std.proofs.Math.Nat.{div-le_of_le-mul, mul-le-mul_right}
use Rattle.std.proofs.lemmas.Bool.{cond_both, cases_lt, cases_eq, false≢true}
use Rattle.std.proofs.lemmas.Bool.Decides.{nat_tests}
use Rattle.edit_model.specs.declared.kinds.EndKind.{EndKind}
use Rattle.edit_model.specs.Boundaries.{is_boundary}
use Rattle.edit_model.specs.declared.kinds.Kind.{Kind}
use Rattle.edit_model.specs.declared.kinds.Kind.TheVariants.{MarkMark, MarkPoint, PointMark, PointPoint, Paragraph}
use Rattle.edit_model.specs.declared.kinds.EndKind.TheVariants as end
use Rattle.edit_model.specs.State.{Span}
use Rattle.edit_model.specs.Flags.{kind_of, start_kind, end_kind, is_point_mark, is_paragraph}
use Rattle.edit_model.specs.EndTable.{end_of, is_scaled, scaled, end_of_span}
use Rattle.edit_model.specs.Replaced.{spliced, spliced_length, is_emptied, moved_span}
use Rattle.edit_model.specs.WellFormed.{IsSpanOver, IsKeptRight}
use Rattle.edit_model.proofs.Splices.{length-spliced}
use Rattle.edit_model.proofs.Ends.{end_in_text, ends_in_order}
use Rattle.edit_model.proofs.KeptBoundaries.{boundary_kept}

emptied_by : (point_mark : Bool) (s e n first last : ℕ) → (point_mark && ltb s e && leb s first && leb last e && (eqb n 0 || ltb s first || ltb last e)) ≡ false
    → (point_mark ≡ true) × (s < e) × (s ≤ first) × (last ≤ e) × ((n ≡ 0) ⊎ ((s < first) ⊎ (last < e))) → ⊥
emptied_by point_mark s e n first last kept all = grind (arith, nat_tests)

-- a span that isn't emptied isn't covered in the ways that empty
pub not_emptied : (s e n : ℕ) (span : Span) → is_emptied s e n span ≡ false
    → (is_point_mark (kind_of span.flags) ≡ true) × (s < e) × (s ≤ span.start) × (span.end ≤ e) × ((n ≡ 0) ⊎ ((s < span.start) ⊎ (span.end < e))) → ⊥
not_emptied s e n span kept = emptied_by (is_point_mark (kind_of span.flags)) s e n span.start span.end kept

-- only spans that may not be empty are emptied
pub other_kinds_kept : (s e n : ℕ) (span : Span) → is_point_mark (kind_of span.flags) ≡ false → is_emptied s e n span ≡ false
other_kinds_kept s e n span other = rw other

paragraph_starts : (kind : Kind) → is_paragraph kind ≡ true → start_kind kind ≡ end.Paragraph
paragraph_starts MarkMark is = absurd (cc)
paragraph_starts MarkPoint is = absurd (cc)
paragraph_starts PointMark is = absurd (cc)
paragraph_starts PointPoint is = absurd (cc)
paragraph_starts Paragraph is = refl

paragraph_ends : (kind : Kind) → is_paragraph kind ≡ true → end_kind kind ≡ end.Paragraph
paragraph_ends MarkMark is = absurd (cc)
paragraph_ends MarkPoint is = absurd (cc)
paragraph_ends PointMark is = absurd (cc)
paragraph_ends PointPoint is = absurd (cc)
paragraph_ends Paragraph is = refl

-- ---- the ends of the selection

-- n in proportion to a part of the range is at most n
part_within : (x s e n : ℕ) → x ≤ e → (x - s) * n / (e - s) ≤ n
part_within x s e n below = div-le_of_le-mul (e - s) (mul-le-mul_right n (omega (arith, below)))

scaled_within : (x s e n : ℕ) → x ≤ e → scaled x s e n ≤ s + n
scaled_within x s e n below =
    let part : (x - s) * n / (e - s) ≤ n = part_within x s e n below in
    omega (arith, part)

-- a span of another id goes by its kind
unscaled : (id x s e n : ℕ) → 2 ≤ id → is_scaled id x s e n ≡ false
unscaled id x s e n other = grind (arith, nat_tests)

pub end_by_kind : (id : ℕ) (kind : EndKind) (x s e n : ℕ) (units : List ℕ) → 2 ≤ id → end_of_span id kind x s e n units ≡ end_of kind x s e n units
end_by_kind id kind x s e n units other = ap (λ b. cond b (scaled x s e n) (end_of kind x s e n units)) (unscaled id x s e n other)

-- where it scales it stands inside the range
inside_scaled : (id x s e n : ℕ) → is_scaled id x s e n ≡ true → (s < x) × (x < e)
inside_scaled id x s e n is = (grind (arith, nat_tests), grind (arith, nat_tests))

pub span_end_in_text : (id : ℕ) (kind : EndKind) (x s e n : ℕ) (units : List ℕ) → s ≤ e → e ≤ length units → x ≤ length units
    → end_of_span id kind x s e n units ≤ spliced_length (length units) s e n
span_end_in_text id kind x s e n units ordered within below =
    cond_both (is_scaled id x s e n) (scaled x s e n) (end_of kind x s e n units) (λ at. at ≤ spliced_length (length units) s e n)
    (λ is. let amid = inside_scaled id x s e n is in omega (arith, scaled_within x s e n (omega (arith, amid.1))))
    (λ is. end_in_text kind x s e n units ordered within below)

-- both ends of a selection's span go to one place
selection_moved : (id flags first last s e n : ℕ) (units : List ℕ) → kind_of flags ≡ PointPoint → first ≡ last
    → end_of_span id (start_kind (kind_of flags)) first s e n units ≡ end_of_span id (end_kind (kind_of flags)) last s e n units
selection_moved id flags first last s e n units kind one = rw (kind, one)

-- a span of the selection is empty, and both its ends stay behind what comes
pub record IsSelected (span : Span) : Type 0 where
  pub kind : kind_of span.flags ≡ PointPoint
  pub empty : span.start ≡ span.end

selected : (span : Span) → IsKeptRight span → span.id < 2 → IsSelected span
selected span kept low = elim (cases_eq span.id 0) [
  | inl zero ↦ let k = kept.0 zero in record { kind = ap kind_of k.0; empty = k.2 }
  | inr other ↦ let k = kept.1 (omega (arith, low)) in record { kind = ap kind_of k.0; empty = k.2 }
]

pub kept_right-moved : (s e n : ℕ) (units : List ℕ) (span : Span) → IsKeptRight span → IsKeptRight (moved_span s e n units span)
kept_right-moved s e n units span kept = (
  λ zero. let k = kept.0 zero in (k.0, k.1, selection_moved span.id span.flags span.start span.end s e n units (ap kind_of k.0) k.2),
  λ one. let k = kept.1 one in (k.0, k.1, selection_moved span.id span.flags span.start span.end s e n units (ap kind_of k.0) k.2),
  kept.2,
  kept.3,
)

module _ (units : List ℕ) (s e : ℕ) (brought : List ℕ) (ordered : s ≤ e) (within : e ≤ length units) where
  -- what holds of the ends of a span by their kinds holds of them where it isn't the selection's
  span_over-other : (span : Span) → 2 ≤ span.id → IsSpanOver units span → is_emptied s e (length brought) span ≡ false
      → IsSpanOver (spliced units s e brought) (moved_span s e (length brought) units span)
  span_over-other span other over kept =
      let kind : Kind = kind_of span.flags in
      let n : ℕ = length brought in
      let starts = end_by_kind span.id (start_kind kind) span.start s e n units other in
      let ends = end_by_kind span.id (end_kind kind) span.end s e n units other in
      let order = ends_in_order kind span.start span.end s e n units ordered within over.ordered over.within over.filled
      (λ is. (over.starts is, over.ends is)) (not_emptied s e n span kept) in
      let at = λ (place : ℕ). is_boundary (spliced units s e brought) place ≡ true in
      record {
        flags = over.flags;
        ordered = subst (λ first. first ≤ end_of_span span.id (end_kind kind) span.end s e n units) (sym starts)
            (subst (λ last. end_of (start_kind kind) span.start s e n units ≤ last) (sym ends) order.0);
        within = rw (length-spliced units s e brought ordered within)
            (span_end_in_text span.id (end_kind kind) span.end s e n units ordered within over.within);
        filled = λ is. subst (λ first. first < end_of_span span.id (end_kind kind) span.end s e n units) (sym starts)
            (subst (λ last. end_of (start_kind kind) span.start s e n units < last) (sym ends) (order.1 is));
        starts = λ is. subst at (sym starts)
            (rw (paragraph_starts kind is) (boundary_kept units s e brought ordered within span.start (over.starts is)));
        ends = λ is. subst at (sym ends)
            (rw (paragraph_ends kind is) (boundary_kept units s e brought ordered within span.end (over.ends is)));
        kept = kept_right-moved s e n units span over.kept;
      }

  -- the selection's spans stay empty
  span_over-selected : (span : Span) → IsSelected span → IsSpanOver units span → IsSpanOver (spliced units s e brought) (moved_span s e (length brought) units span)
  span_over-selected span is over =
      let n : ℕ = length brought in
      let one = selection_moved span.id span.flags span.start span.end s e n units is.kind is.empty in
      record {
        flags = over.flags;
        ordered = omega (arith, one);
        within = rw (length-spliced units s e brought ordered within)
            (span_end_in_text span.id (end_kind (kind_of span.flags)) span.end s e n units ordered within over.within);
        filled = λ point_mark. absurd (false≢true (sym (ap is_point_mark is.kind) ∙ point_mark));
        starts = λ paragraph. absurd (false≢true (sym (ap is_paragraph is.kind) ∙ paragraph));
        ends = λ paragraph. absurd (false≢true (sym (ap is_paragraph is.kind) ∙ paragraph));
        kept = kept_right-moved s e n units span over.kept;
      }

  pub span_over-moved : (span : Span) → IsSpanOver units span → is_emptied s e (length brought) span ≡ false
      → IsSpanOver (spliced units s e brought) (moved_span s e (length brought) units span)
  span_over-moved span over kept = elim (cases_lt span.id 2) [
    | inl low ↦ span_over-selected span (selected span over.kept low) over
    | inr other ↦ span_over-other span other over kept
  ]
