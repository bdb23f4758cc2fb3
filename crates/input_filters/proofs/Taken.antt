-- Spans whose places are taken elsewhere.
use Rattle.std.proofs.Common.{◌≡◌, ℕ, Bool, List, [], ◌∷◌, map, length, take, refl, sym, ◌∙◌, arith, length-take}
use Rattle.std.specs.Prelude.{slice_index}
use Rattle.std.specs.List.{All}
use Rattle.std.proofs.lemmas.List.{map-id}
use Rattle.std.proofs.lemmas.List.Elements.{All-head, All-tail}
use Rattle.edit_base.specs.declared.rows.NewSpan.{NewSpan}
use Rattle.edit_model.specs.Filtered.{at_places}
use Rattle.input_filters.specs.Kept.{count_before, AreCounts, LiesIn}

-- two functions that agree on what holds of each element make one list
map_agree : {X Y : Type 0} (P : X → Type 0) (f g : X → Y) → ((x : X) → P x → f x ≡ g x) → (xs : List X) → All P xs → map f xs ≡ map g xs
map_agree P f g agree [] each = refl
map_agree P f g agree (x ∷ xs) each = rw (agree x (All-head P x xs each), map_agree P f g agree xs (All-tail P x xs each)) refl

at_places_agree : (to other : ℕ → ℕ) (span : NewSpan) → to span.start ≡ other span.start → to span.end ≡ other span.end
    → at_places to span ≡ at_places other span
at_places_agree to other span start end = rw (start, end) refl

-- places looked up in the counts are those that the filter takes them to
pub looked_up : (keep : ℕ → Bool) (units counts : List ℕ) (spans : List NewSpan) → AreCounts keep units counts → All (LiesIn (length units)) spans
    → map (at_places (slice_index counts)) spans ≡ map (at_places (count_before keep units)) spans
looked_up keep units counts spans are inside =
    map_agree (LiesIn (length units)) (at_places (slice_index counts)) (at_places (count_before keep units))
    (λ span lies. at_places_agree (slice_index counts) (count_before keep units) span (are.each span.start lies.0) (are.each span.end lies.1)) spans inside

-- where every unit is kept, places stay
pub left_alone : (units : List ℕ) (spans : List NewSpan) → All (LiesIn (length units)) spans
    → spans ≡ map (at_places (λ at. length (take at units))) spans
left_alone units spans inside =
    let to = λ (at : ℕ). length (take at units) in
    sym (map-id spans)
    ∙ map_agree (LiesIn (length units)) (λ span. span) (at_places to)
    (λ span lies. at_places_agree (λ at. at) to span
    (omega (arith, length-take span.start units, lies.0)) (omega (arith, length-take span.end units, lies.1))) spans inside
