-- The minds of a shelf when one box is another.
use Rattle.std.proofs.Common.{◌≡◌, ◌<◌, ◌∙◌, ℕ, List, map, length, get_or, set, sym, ap, subst}
use Rattle.std.proofs.lemmas.List.{map-set, get_or-map, length-map}
use Rattle.edit_model.specs.Minds.{Mind}

-- the mind at its place is the next one of the mind that was there
pub exchanged : {B : Type 0} (mind_of : B → Mind) (boxes : List B) (at : ℕ) (old new : B) (next : Mind → Mind) (blank : Mind) → at < length (map mind_of boxes)
    → old ≡ get_or boxes at old → mind_of new ≡ next (mind_of old)
    → map mind_of (set boxes at new) ≡ set (map mind_of boxes) at (next (get_or (map mind_of boxes) at blank))
exchanged mind_of boxes at old new next blank within is told =
    let inside = subst (λ n. at < n) (length-map boxes mind_of) within in
    map-set mind_of boxes at new
    ∙ ap (λ (mind : Mind). set (map mind_of boxes) at mind)
    (told ∙ ap next (ap mind_of is ∙ sym (get_or-map mind_of boxes at old blank inside)))
