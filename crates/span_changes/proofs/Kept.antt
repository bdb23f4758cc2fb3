-- The spans of the selection and of the composing region, found at their places and moved there.
use Rattle.std.proofs.Common.{◌≡◌, ℕ, ◌<◌, zero, suc, Bool, true, false, cond, List, [], ◌∷◌, map, length, get_or, refl, sym, ap, ◌∙◌, arith, Some, None, inl, inr, eq-eqb}
use Rattle.std.proofs.Math.ListN.{set}
use Rattle.std.specs.List.{AllByRecursion, find, list_any}
use Rattle.std.proofs.lemmas.Bool.{cases_Bool, eqb-true, ne_eqb, or_parts}
use Rattle.std.proofs.lemmas.List.Quantifiers.{position-Some}
use Rattle.edit_model.specs.State.{Span}
use Rattle.edit_model.specs.Attached.{has_id, is_attached}
use Rattle.edit_model.specs.Selection.{at_place as put_at, with_ends}
use Rattle.edit_model.specs.WellFormed.{HasDistinctIds}
use Rattle.edit_model.proofs.SpanLists.{distinct-map}
use Rattle.span_table.specs.Table.{no_span, row_place, span_at}
use Rattle.span_changes.proofs.Spans.{at_place, attached_at, before_at, behind_at}

-- ---- the first that passes

module _ {X : Type 0} (p : X → Bool) where
  found_first : (xs : List X) (i : ℕ) (d : X) → i < length xs → p (get_or xs i d) ≡ true → ((k : ℕ) → k < i → p (get_or xs k d) ≡ false)
      → find p xs ≡ Some (get_or xs i d)
  found_first [] i d below is others = absurd (omega arith)
  found_first (x ∷ xs) zero d below is others = rw is refl
  found_first (x ∷ xs) (suc i) d below is others =
      rw (others 0 (omega arith)) (found_first xs i d (omega arith) is (λ k within. others (suc k) (omega (arith, within))))

  none_passes : (xs : List X) → list_any p xs ≡ false → find p xs ≡ None
  none_passes [] none = refl
  none_passes (x ∷ xs) none = let parts = or_parts (p x) (list_any p xs) none in rw parts.0 (none_passes xs parts.1)

-- the span at the place of an id is the one that is found by it
pub found_by_id : (id : ℕ) (spans : List Span) (at : ℕ) → row_place id spans ≡ Some at → find (has_id id) spans ≡ Some (span_at spans at)
found_by_id id spans at is =
    let found = position-Some (has_id id) spans at no_span is in
    found_first (has_id id) spans at no_span found.0 found.1 found.2

pub none_by_id : (id : ℕ) (spans : List Span) → is_attached id spans ≡ false → find (has_id id) spans ≡ None
none_by_id id spans absent = none_passes (has_id id) spans absent

pub attached_by_place : (id : ℕ) (spans : List Span) (at : ℕ) → row_place id spans ≡ Some at → is_attached id spans ≡ true
attached_by_place id spans at is = let there = at_place id spans at is in attached_at id spans at no_span there.within there.id_is

-- ---- the span of an id goes to a place

module _ (id : ℕ) (f : Span → Span) where
  abbrev taken : Span → Span
  taken other = cond (has_id id other) (f other) other

  others_still : (spans : List Span) → AllByRecursion (λ other. has_id id other ≡ false) spans → map taken spans ≡ spans
  others_still [] apart = refl
  others_still (other ∷ spans) apart = rw apart.0 (ap (λ rest. other ∷ rest) (others_still spans apart.1))

  pub set_moved : (spans : List Span) (at : ℕ) (d : Span) → HasDistinctIds spans → at < length spans → (get_or spans at d).id ≡ id
      → set spans at (f (get_or spans at d)) ≡ map taken spans
  set_moved [] at d distinct below is = absurd (omega arith)
  set_moved (other ∷ spans) zero d distinct below is =
      rw (eq-eqb other.id id is) (ap (λ rest. f other ∷ rest) (sym (others_still spans (behind_at id other spans distinct.0 is))))
  set_moved (other ∷ spans) (suc at) d distinct below is =
      rw (before_at id other spans at d distinct.0 (omega arith) is)
      (ap (λ rest. other ∷ rest) (set_moved spans at d distinct.1 (omega arith) is))

id_at-map : (f : Span → Span) → ((span : Span) → (f span).id ≡ span.id) → (spans : List Span) (at : ℕ) (d : Span) → at < length spans
    → (get_or (map f spans) at d).id ≡ (get_or spans at d).id
id_at-map f keeps [] at d below = absurd (omega arith)
id_at-map f keeps (span ∷ spans) zero d below = keeps span
id_at-map f keeps (span ∷ spans) (suc at) d below = id_at-map f keeps spans at d (omega arith)

pub length_map : (f : Span → Span) (spans : List Span) → length (map f spans) ≡ length spans
length_map f [] = refl
length_map f (span ∷ spans) = ap suc (length_map f spans)

map_same : (f g : Span → Span) → ((span : Span) → f span ≡ g span) → (spans : List Span) → map f spans ≡ map g spans
map_same f g same [] = refl
map_same f g same (span ∷ spans) = rw (same span, map_same f g same spans) refl

map_twice : (g f : Span → Span) (spans : List Span) → map g (map f spans) ≡ map (λ span. g (f span)) spans
map_twice g f [] = refl
map_twice g f (span ∷ spans) = ap (λ rest. g (f span) ∷ rest) (map_twice g f spans)

module _ (start end : ℕ) where
  keeps_id : (other : Span) → (taken 0 (put_at start) other).id ≡ other.id
  keeps_id other = elim (cases_Bool (has_id 0 other)) [ inl is ↦ rw is refl | inr is ↦ rw is refl ]

  both_taken : (other : Span) → taken 1 (put_at end) (taken 0 (put_at start) other) ≡ with_ends start end other
  both_taken other = elim (cases_Bool (has_id 0 other)) [
    | inl is ↦ (let first : other.id ≡ 0 = eqb-true other.id 0 is in
        let second : has_id 1 other ≡ false = ne_eqb other.id 1 (λ same. absurd (omega (arith, first, same))) in
        rw (is, second) refl)
    | inr is ↦ rw is refl
  ]

  -- the ends of the selection, one after the other
  pub both_moved : (spans : List Span) (first last : ℕ) → HasDistinctIds spans → row_place 0 spans ≡ Some first → row_place 1 spans ≡ Some last
      → set (set spans first (put_at start (span_at spans first))) last
      (put_at end (span_at (set spans first (put_at start (span_at spans first))) last)) ≡ map (with_ends start end) spans
  both_moved spans first last distinct zero_is one_is =
      let there = at_place 0 spans first zero_is in
      let then = at_place 1 spans last one_is in
      let once = set_moved 0 (put_at start) spans first no_span distinct there.within there.id_is in
      let moved : List Span = map (taken 0 (put_at start)) spans in
      let long = length_map (taken 0 (put_at start)) spans in
      ap (λ list. set list last (put_at end (span_at list last))) once
      ∙ set_moved 1 (put_at end) moved last no_span (distinct-map (taken 0 (put_at start)) keeps_id spans distinct) (omega (arith, long, then.within))
      (id_at-map (taken 0 (put_at start)) keeps_id spans last no_span then.within ∙ then.id_is)
      ∙ map_twice (taken 1 (put_at end)) (taken 0 (put_at start)) spans
      ∙ map_same (λ other. taken 1 (put_at end) (taken 0 (put_at start) other)) (with_ends start end) both_taken spans
