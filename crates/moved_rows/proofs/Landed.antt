-- Ends as the range is cleared, closed and grown, and as the rule for them takes them.
use Rattle.std.proofs.Common.{zero, suc, length, ◌≡◌, ℕ, ◌<◌, ◌≤◌, ◌+◌, Bool, true, false, List, [], ◌∷◌, map, get_or, subst, refl, sym, ap, ◌∙◌, arith, inl, inr}
use Rattle.std.specs.List.{All, AllByRecursion}
use Rattle.std.proofs.lemmas.Bool.{and_cases, leb-false}
use Rattle.std.proofs.lemmas.Bool.Decides.{nat_tests}
use Rattle.std.proofs.lemmas.List.Elements.{All-map}
use Rattle.edit_model.specs.declared.kinds.EndKind.{EndKind}
use Rattle.edit_model.specs.State.{Span}
use Rattle.edit_model.specs.EndTable.{end_of_span}
use Rattle.edit_model.specs.Flags.{end_kind, kind_of, start_kind}
use Rattle.edit_model.specs.Over.{touches}
use Rattle.edit_model.specs.Replaced.{moved_span}
use Rattle.edit_model.specs.WellFormed.{IsSpanOver}
use Rattle.span_table.specs.Numbers.{bound, closed, ends_behind, pushed, starts_behind, IsClear}
use Rattle.span_table.specs.Table.{HasRoomFor, IsClearOf, closed_span, pushed_span}
use Rattle.span_table.proofs.Lists.{map_both}
use Rattle.interval_tree.specs.Answers.{IsForward}
use Rattle.moved_rows.specs.Moving.{IsSpanWithin, cleared, cleared_span, landed, landed_span}

-- ---- one end

-- a cleared end stands on neither side that falls into the gap
cleared_clear : (s e : ℕ) (points : Bool) (x : ℕ) → s ≤ e → IsClear s e points (cleared s e points x)
cleared_clear s e true x order = record { outside = λ h. grind (arith, nat_tests); point = λ p h. grind (arith, nat_tests); mark = λ p h. cc }
cleared_clear s e false x order = record { outside = λ h. grind (arith, nat_tests); point = λ p h. cc; mark = λ p h. grind (arith, nat_tests) }

-- an end that lies outside the range
pub data Away (s e x : ℕ) : Type 0 where
  before : x < s → Away s e x
  behind : e < x → Away s e x

cleared_away : (s e : ℕ) (points : Bool) (x : ℕ) → Away s e x → cleared s e points x ≡ x
cleared_away s e points x (before low) = grind (arith, nat_tests)
cleared_away s e points x (behind high) = grind (arith, nat_tests)

landed_away : (s e n : ℕ) (points : Bool) (id : ℕ) (kind : EndKind) (x : ℕ) (units : List ℕ) → s ≤ e → Away s e x
    → landed s e n points x ≡ end_of_span id kind x s e n units
landed_away s e n points id kind x units order (before low) =
    let is : pushed s n points (closed s e x) ≡ end_of_span id kind x s e n units = grind (arith, nat_tests) in
    ap (λ y. pushed s n points (closed s e y)) (cleared_away s e points x (before low)) ∙ is
landed_away s e n points id kind x units order (behind high) =
    let is : pushed s n points (closed s e x) ≡ end_of_span id kind x s e n units = grind (arith, nat_tests) in
    ap (λ y. pushed s n points (closed s e y)) (cleared_away s e points x (behind high)) ∙ is

cleared_fits : (s e n last : ℕ) (points : Bool) (x : ℕ) → s ≤ e → e ≤ last → x ≤ last → last + n < bound → closed s e (cleared s e points x) + n < bound
cleared_fits s e n last true x order within lies fits = grind (arith, nat_tests)
cleared_fits s e n last false x order within lies fits = grind (arith, nat_tests)

-- ---- a span

-- a span that doesn't touch the range has both ends outside
start_away : (s e : ℕ) (span : Span) → touches s e span ≡ false → IsForward span → Away s e span.start
start_away s e span apart order = elim (and_cases _ _ apart) [
  | inl past ↦ behind (leb-false span.start e past)
  | inr early ↦ before (omega (arith, leb-false s span.end early, order))
]

end_away : (s e : ℕ) (span : Span) → touches s e span ≡ false → IsForward span → Away s e span.end
end_away s e span apart order = elim (and_cases _ _ apart) [
  | inl past ↦ let late = leb-false span.start e past in behind (omega (arith, late, order))
  | inr early ↦ before (leb-false s span.end early)
]

same_ends : (span : Span) (start start2 end end2 : ℕ) → start ≡ start2 → end ≡ end2
    → ◌≡◌ {A = Span} (record { id = span.id; start = start; end = end; flags = span.flags; what = span.what })
    (record { id = span.id; start = start2; end = end2; flags = span.flags; what = span.what })
same_ends span start start2 end end2 starts ends = rw (starts, ends) refl

pub cleared_apart : (s e : ℕ) (span : Span) → touches s e span ≡ false → IsForward span → span ≡ cleared_span s e span
cleared_apart s e span apart order =
    same_ends span _ _ _ _ (sym (cleared_away s e (starts_behind span.flags) span.start (start_away s e span apart order)))
    (sym (cleared_away s e (ends_behind span.flags) span.end (end_away s e span apart order)))

pub landed_apart : (s e n : ℕ) (units : List ℕ) (span : Span) → s ≤ e → touches s e span ≡ false → IsForward span
    → landed_span s e n span ≡ moved_span s e n units span
landed_apart s e n units span order apart ordered =
    same_ends span _ _ _ _
    (landed_away s e n (starts_behind span.flags) span.id (start_kind (kind_of span.flags)) span.start units order (start_away s e span apart ordered))
    (landed_away s e n (ends_behind span.flags) span.id (end_kind (kind_of span.flags)) span.end units order (end_away s e span apart ordered))

-- ---- all spans

pub all_clear : (s e : ℕ) (spans : List Span) → s ≤ e → All (IsClearOf s e) (map (cleared_span s e) spans)
all_clear s e spans order =
    All-map (IsClearOf s e) (cleared_span s e) spans (λ k d h. record {
      start = cleared_clear s e (starts_behind (get_or spans k d).flags) (get_or spans k d).start order;
      end = cleared_clear s e (ends_behind (get_or spans k d).flags) (get_or spans k d).end order;
    })

pub all_fit : (s e n last : ℕ) (spans : List Span) → s ≤ e → e ≤ last → last + n < bound → All (IsSpanWithin last) spans
    → All (HasRoomFor n) (map (closed_span s e) (map (cleared_span s e) spans))
all_fit s e n last spans order within fits over =
    subst (All (HasRoomFor n)) (map_both (closed_span s e) (cleared_span s e) spans)
    (All-map (HasRoomFor n) (λ span. closed_span s e (cleared_span s e span)) spans (λ k d h.
    let span = get_or spans k d in
    let lies = over k d h in
    record {
      start = cleared_fits s e n last (starts_behind span.flags) span.start order within (omega (arith, lies.ordered, lies.within)) fits;
      end = cleared_fits s e n last (ends_behind span.flags) span.end order within lies.within fits;
    }))

-- cleared, closed and grown, they have landed
pub all_landed : (s e n : ℕ) (spans : List Span)
    → map (pushed_span s n) (map (closed_span s e) (map (cleared_span s e) spans)) ≡ map (landed_span s e n) spans
all_landed s e n [] = refl
all_landed s e n (span ∷ spans) = ap (λ rest. landed_span s e n span ∷ rest) (all_landed s e n spans)

pub all_in_order : (last : ℕ) (spans : List Span) → All (IsSpanWithin last) spans → All IsForward spans
all_in_order last spans over k d h = (over k d h).ordered

-- the spans of a text that is well formed
pub all_within : (units : List ℕ) (spans : List Span) → AllByRecursion (IsSpanOver units) spans → All (IsSpanWithin (length units)) spans
all_within units [] all k d h = absurd (omega arith)
all_within units (span ∷ spans) all zero d h = record { ordered = all.0.ordered; within = all.0.within }
all_within units (span ∷ spans) all (suc k) d h = all_within units spans all.1 k d (omega arith)
