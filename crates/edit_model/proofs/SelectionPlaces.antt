-- Where the selection and the composing region stand behind an edit.
use Rattle.std.proofs.Common.{◌≡◌, ℕ, ◌||◌, ◌++◌, Bool, true, false, not, cond, Option, Some, None, List, [], ◌∷◌, map, refl, sym, ap, ◌∙◌, subst, arith}
use Rattle.std.specs.Prelude.{ℤ, ◌==◌}
use Rattle.std.specs.Option.{option_map}
use Rattle.std.specs.List.{filter, find}
use Rattle.std.proofs.lemmas.Bool.{cond_both, or_parts, eqb-true, ne_eqb}
use Rattle.edit_model.specs.declared.steps.Step.TheVariants as step
use Rattle.edit_model.specs.State.{Span, State, place}
use Rattle.edit_model.specs.Attached.{has_id, is_attached}
use Rattle.edit_model.specs.Selection.{selection_start, selection_end, is_of_selection, has_selection, ends_at, selection, at_place, with_ends, region_span, has_region, region}
use Rattle.edit_model.specs.WellFormed.{IsWellFormed, composing_id}
use Rattle.edit_model.specs.Changed.{stepped, selected_spans}
use Rattle.edit_model.proofs.Selections.{none_kept, not_of_selection, id-with_ends}

-- ---- the first span of an id

-- an id that isn't attached isn't found
found_none : (id : ℕ) (spans : List Span) → is_attached id spans ≡ false → find (has_id id) spans ≡ None
found_none id [] none = refl
found_none id (span ∷ spans) none =
    let parts = or_parts (has_id id span) (is_attached id spans) none in
    ap (λ test. cond test (Some span) (find (has_id id) spans)) parts.0 ∙ found_none id spans parts.1

-- behind spans without the id it is found among the others
found_behind : (id : ℕ) (spans others : List Span) → is_attached id spans ≡ false → find (has_id id) (spans ++ others) ≡ find (has_id id) others
found_behind id [] others none = refl
found_behind id (span ∷ spans) others none =
    let parts = or_parts (has_id id span) (is_attached id spans) none in
    ap (λ test. cond test (Some span) (find (has_id id) (spans ++ others))) parts.0 ∙ found_behind id spans others parts.1

-- where a span starts that is found
abbrev pub start_found : Option Span → Option ℕ
start_found None = None
start_found (Some span) = Some span.start

-- where each span of the id goes to a place, the one that is found stands there
found_step : (id at : ℕ) (f : Span → Span) (span : Span) (spans : List Span) (test : Bool) → has_id id span ≡ test
    → (f span).id ≡ span.id → (has_id id span ≡ true → (f span).start ≡ at)
    → (is_attached id spans ≡ true → start_found (find (has_id id) (map f spans)) ≡ Some at)
    → (has_id id span || is_attached id spans) ≡ true
    → start_found (cond (has_id id (f span)) (Some (f span)) (find (has_id id) (map f spans))) ≡ Some at
found_step id at f span spans true is same here there attached =
    ap (λ test. start_found (cond test (Some (f span)) (find (has_id id) (map f spans)))) (ap (λ one. one == id) same ∙ is) ∙ ap Some (here is)
found_step id at f span spans false is same here there attached =
    ap (λ test. start_found (cond test (Some (f span)) (find (has_id id) (map f spans)))) (ap (λ one. one == id) same ∙ is)
    ∙ there (subst (λ test. (test || is_attached id spans) ≡ true) is attached)

found_mapped : (id at : ℕ) (f : Span → Span) → ((span : Span) → (f span).id ≡ span.id) → ((span : Span) → has_id id span ≡ true → (f span).start ≡ at)
    → (spans : List Span) → is_attached id spans ≡ true → start_found (find (has_id id) (map f spans)) ≡ Some at
found_mapped id at f same here [] attached = absurd (cc)
found_mapped id at f same here (span ∷ spans) attached =
    found_step id at f span spans (has_id id span) refl (same span) (here span) (found_mapped id at f same here spans) attached

both_found : (first last : Option Span) (a b : ℕ) → start_found first ≡ Some a → start_found last ≡ Some b → ends_at first last ≡ Some (a, b)
both_found None last a b here there = absurd (cc)
both_found (Some one) None a b here there = absurd (cc)
both_found (Some one) (Some other) a b here there = rw (some_is one.start a here, some_is other.start b there) refl
  where
    some_is : (x y : ℕ) → Some x ≡ Some y → x ≡ y
    some_is x y is = cc

-- ---- selections

module _ (a b : ℕ) where
  start-first : (span : Span) → has_id 0 span ≡ true → (with_ends a b span).start ≡ a
  start-first span is = ap (λ test. (cond test (at_place a span) (cond (has_id 1 span) (at_place b span) span)).start) is

  start-last : (span : Span) → has_id 1 span ≡ true → (with_ends a b span).start ≡ b
  start-last span is =
      ap (λ test. (cond test (at_place a span) (cond (has_id 1 span) (at_place b span) span)).start) (ne_eqb span.id 0 (omega (arith, eqb-true span.id 1 is)))
      ∙ ap (λ test. (cond test (at_place b span) span).start) is

  selected_at : (spans : List Span) → is_attached 0 spans ≡ is_attached 1 spans → selection (selected_spans a b spans) ≡ Some (a, b)
  selected_at spans both =
      cond_both (has_selection spans) (map (with_ends a b) spans) (spans ++ selection_start a ∷ selection_end b ∷ []) (λ list. selection list ≡ Some (a, b))
      (λ is. both_found (find (has_id 0) (map (with_ends a b) spans)) (find (has_id 1) (map (with_ends a b) spans)) a b
      (found_mapped 0 a (with_ends a b) (id-with_ends a b) start-first spans is)
      (found_mapped 1 b (with_ends a b) (id-with_ends a b) start-last spans (sym both ∙ is)))
      (λ none. both_found (find (has_id 0) (spans ++ selection_start a ∷ selection_end b ∷ [])) (find (has_id 1) (spans ++ selection_start a ∷ selection_end b ∷ [])) a b
      (ap start_found (found_behind 0 spans (selection_start a ∷ selection_end b ∷ []) none))
      (ap start_found (found_behind 1 spans (selection_start a ∷ selection_end b ∷ []) (sym both ∙ none))))

pub selects_places : (state : State) (start end : ℤ) → IsWellFormed state → selection (stepped state (step.Select start end)).spans ≡ Some (place start, place end)
unfolding stepped
selects_places state start end formed = selected_at (place start) (place end) state.spans formed.selection

pub leaves_no_selection : (state : State) → selection (stepped state step.Deselect).spans ≡ None
unfolding stepped
leaves_no_selection state =
    ap (λ first. ends_at first (find (has_id 1) (filter (λ span. not (is_of_selection span)) state.spans)))
    (found_none 0 (filter (λ span. not (is_of_selection span)) state.spans)
    (none_kept 0 (λ span. not (is_of_selection span)) (not_of_selection 0 (omega arith)) state.spans))

-- ---- regions

pub marks_places : (state : State) (start end : ℕ) → has_region state.spans ≡ false → region (stepped state (step.Mark start end)).spans ≡ Some (start, end)
unfolding stepped
marks_places state start end none =
    ap (λ found. option_map (λ (span : Span). (span.start, span.end)) found) (found_behind composing_id state.spans (region_span start end ∷ []) none)
