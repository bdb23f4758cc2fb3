-- A span of distinct ids that is set or taken out at its place.
use Rattle.std.proofs.Common.{◌≡◌, ℕ, ◌<◌, zero, suc, true, false, cond, List, [], ◌∷◌, map, length, get_or, refl, sym, ap, subst, arith, eq-eqb, add-one, Some}
use Rattle.std.proofs.Math.ListN.{set}
use Rattle.std.specs.List.{AllByRecursion, remove}
use Rattle.std.proofs.lemmas.Bool.{ne_eqb, eqb-true}
use Rattle.std.proofs.lemmas.List.Folds.{list_any_at}
use Rattle.std.proofs.lemmas.List.Quantifiers.{position-Some}
use Rattle.edit_base.specs.declared.rows.SpanRow.{SpanRow}
use Rattle.edit_model.specs.State.{Span}
use Rattle.edit_model.specs.Attached.{has_id, is_attached, with_span, without_span, spans_of}
use Rattle.edit_model.specs.Changed.{Effect, shifts_by, set_effect, spans_effect}
use Rattle.edit_model.specs.Rows.{spans_in}
use Rattle.edit_model.specs.WellFormed.{HasDistinctIds}
use Rattle.edit_model.proofs.SpanLists.{all_fail}
use Rattle.span_table.specs.Table.{no_span, row_place, span_at, without_at}
use Rattle.moved_rows.specs.Moves.{Moves, moved_of}

-- a change is what its numbers and lists say
pub effect_from : {start old_end grown : ℕ} (removed : List SpanRow) (moved : Moves) (added : List SpanRow) (effect : Effect)
    → start ≡ effect.start → old_end ≡ effect.old_end → grown ≡ effect.grown
    → spans_in removed ≡ effect.removed → moved_of moved ≡ effect.moved → spans_in added ≡ effect.added
    → record {
      start = start;
      old_end = old_end;
      grown = grown;
      removed = spans_in removed;
      moved = moved_of moved;
      added = spans_in added;
    } ≡ effect
effect_from removed moved added effect start old_end grown removed_is moved_is added_is = rw (start, old_end, grown, removed_is, moved_is, added_is) refl

-- ---- spans of other ids

module _ (id : ℕ) where
  others_stay : (span : Span) (spans : List Span) → AllByRecursion (λ other. has_id id other ≡ false) spans
      → map (λ other. cond (has_id id other) span other) spans ≡ spans
  others_stay span [] apart = refl
  others_stay span (other ∷ spans) apart = rw apart.0 (ap (λ rest. other ∷ rest) (others_stay span spans apart.1))

  none_found : (spans : List Span) → AllByRecursion (λ other. has_id id other ≡ false) spans → spans_of id spans ≡ []
  none_found [] apart = refl
  none_found (other ∷ spans) apart = rw apart.0 (none_found spans apart.1)

  none_go : (spans : List Span) → AllByRecursion (λ other. has_id id other ≡ false) spans → without_span id spans ≡ spans
  none_go [] apart = refl
  none_go (other ∷ spans) apart = rw apart.0 (ap (λ rest. other ∷ rest) (none_go spans apart.1))

  pub absent_found : (spans : List Span) → is_attached id spans ≡ false → spans_of id spans ≡ []
  absent_found spans absent = none_found spans (all_fail (has_id id) spans absent)

  pub absent_stay : (spans : List Span) → is_attached id spans ≡ false → without_span id spans ≡ spans
  absent_stay spans absent = none_go spans (all_fail (has_id id) spans absent)

  -- ---- the span of the id

  pub attached_at : (spans : List Span) (at : ℕ) (d : Span) → at < length spans → (get_or spans at d).id ≡ id → is_attached id spans ≡ true
  attached_at spans at d below is = list_any_at (has_id id) spans at d below (eq-eqb (get_or spans at d).id id is)

  -- a span before it has another id
  pub before_at : (other : Span) (spans : List Span) (at : ℕ) (d : Span) → is_attached other.id spans ≡ false → at < length spans
      → (get_or spans at d).id ≡ id → has_id id other ≡ false
  before_at other spans at d absent below is =
      ne_eqb other.id id (λ same.
      let attached = attached_at spans at d below is in
      let absent_too = subst (λ other_id. is_attached other_id spans ≡ false) same absent in
      cc)

  -- the spans behind it have other ids
  pub behind_at : (other : Span) (spans : List Span) → is_attached other.id spans ≡ false → other.id ≡ id
      → AllByRecursion (λ span. has_id id span ≡ false) spans
  behind_at other spans absent is = all_fail (has_id id) spans (subst (λ other_id. is_attached other_id spans ≡ false) is absent)

  pub replaced_at : (span : Span) (spans : List Span) (at : ℕ) (d : Span) → HasDistinctIds spans → at < length spans → (get_or spans at d).id ≡ id
      → set spans at span ≡ map (λ other. cond (has_id id other) span other) spans
  replaced_at span [] at d distinct below is = absurd (omega arith)
  replaced_at span (other ∷ spans) zero d distinct below is =
      rw (eq-eqb other.id id is)
      (ap (λ rest. span ∷ rest) (sym (others_stay span spans (behind_at other spans distinct.0 is))))
  replaced_at span (other ∷ spans) (suc at) d distinct below is =
      rw (before_at other spans at d distinct.0 (omega arith) is)
      (ap (λ rest. other ∷ rest) (replaced_at span spans at d distinct.1 (omega arith) is))

  pub found_at : (spans : List Span) (at : ℕ) (d : Span) → HasDistinctIds spans → at < length spans → (get_or spans at d).id ≡ id
      → spans_of id spans ≡ get_or spans at d ∷ []
  found_at [] at d distinct below is = absurd (omega arith)
  found_at (other ∷ spans) zero d distinct below is =
      rw (eq-eqb other.id id is) (ap (λ rest. other ∷ rest) (none_found spans (behind_at other spans distinct.0 is)))
  found_at (other ∷ spans) (suc at) d distinct below is =
      rw (before_at other spans at d distinct.0 (omega arith) is) (found_at spans at d distinct.1 (omega arith) is)

  pub taken_at : (spans : List Span) (at : ℕ) (d : Span) → HasDistinctIds spans → at < length spans → (get_or spans at d).id ≡ id
      → remove spans at ≡ without_span id spans
  taken_at [] at d distinct below is = absurd (omega arith)
  taken_at (other ∷ spans) zero d distinct below is = rw (eq-eqb other.id id is) (sym (none_go spans (behind_at other spans distinct.0 is)))
  taken_at (other ∷ spans) (suc at) d distinct below is =
      rw (before_at other spans at d distinct.0 (omega arith) is) (ap (λ rest. other ∷ rest) (taken_at spans at d distinct.1 (omega arith) is))

-- the span at the place of an id
pub record IsAtPlace (id : ℕ) (spans : List Span) (at : ℕ) : Type 0 where
  pub within : at < length spans
  pub id_is : (span_at spans at).id ≡ id

pub at_place : (id : ℕ) (spans : List Span) (at : ℕ) → row_place id spans ≡ Some at → IsAtPlace id spans at
at_place id spans at is =
    let found = position-Some (has_id id) spans at no_span is in
    record { within = found.0; id_is = eqb-true _ _ found.1 }

module _ (id : ℕ) (spans : List Span) (at : ℕ) (distinct : HasDistinctIds spans) (is : row_place id spans ≡ Some at) where
  pub taken_there : without_at at spans ≡ without_span id spans
  taken_there =
      let there = at_place id spans at is in
      rw add-one (taken_at id spans at no_span distinct there.within there.id_is)

  pub found_there : spans_of id spans ≡ span_at spans at ∷ []
  found_there = let there = at_place id spans at is in found_at id spans at no_span distinct there.within there.id_is

module _ (span : Span) (spans : List Span) (at : ℕ) (distinct : HasDistinctIds spans) (is : row_place span.id spans ≡ Some at) where
  pub attached_there : is_attached span.id spans ≡ true
  attached_there = let there = at_place span.id spans at is in attached_at span.id spans at no_span there.within there.id_is

  pub set_there : set spans at span ≡ with_span span spans
  set_there =
      let there = at_place span.id spans at is in
      rw attached_there (replaced_at span.id span spans at no_span distinct there.within there.id_is)

  pub set_effect_there : (units : List ℕ) → set_effect (record { units = units; spans = spans }) span
      ≡ spans_effect [] (record { from = span_at spans at; to = span } ∷ []) []
  set_effect_there units =
      rw attached_there (ap (λ found. spans_effect [] (shifts_by (λ other. span) found) []) (found_there span.id spans at distinct is))
