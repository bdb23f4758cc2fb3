-- The first free place of a shelf, place by place.
use Rattle.std.proofs.Common.{ℕ, suc, ◌≡◌, ◌+◌, ◌-◌, ◌<◌, ◌≤◌, ◌&&◌, ◌==◌, not, Bool, true, false, List, length, Option, Some, None, map, ap, sym, ◌∙◌, arith}
use Rattle.std.proofs.lemmas.Bool.{cond-true, cond-false}
use Rattle.std.proofs.lemmas.List.{get_or-map}
use Rattle.std.specs.List.{find, range_with_len}
use Rattle.std.specs.Prelude.{slice_index_or}
use Rattle.edit_model.specs.Minds.{Mind, blank_mind}
use Rattle.trace_model.specs.Shelves.{is_free, is_taken}

-- the first free place of so many, from one on
abbrev pub first_from : ℕ → List ℕ → List Mind → ℕ → ℕ → Option ℕ
first_from kind slots minds place count = find (is_free kind slots minds) (range_with_len place count)

module _ (kind : ℕ) (slots : List ℕ) (minds : List Mind) where
  -- it is this one
  pub first_here : (place end : ℕ) → place < end → is_free kind slots minds place ≡ true → Some place ≡ first_from kind slots minds place (end - place)
  first_here place end before free =
      let count : end - place ≡ suc (end - (place + 1)) = omega arith in
      sym (ap (first_from kind slots minds place) count
      ∙ cond-true (is_free kind slots minds place) (Some place) (first_from kind slots minds (place + 1) (end - (place + 1))) free)

  -- it is the first behind this one
  pub first_behind : (place end : ℕ) → place < end → is_free kind slots minds place ≡ false
      → first_from kind slots minds (place + 1) (end - (place + 1)) ≡ first_from kind slots minds place (end - place)
  first_behind place end before taken =
      let count : end - place ≡ suc (end - (place + 1)) = omega arith in
      sym (ap (first_from kind slots minds place) count
      ∙ cond-false (is_free kind slots minds place) (Some place) (first_from kind slots minds (place + 1) (end - (place + 1))) taken)

  -- there is none
  pub first_none : (place end : ℕ) → end ≤ place → None ≡ first_from kind slots minds place (end - place)
  first_none place end behind =
      let count : end - place ≡ 0 = omega arith in
      sym (ap (first_from kind slots minds place) count)

-- what is told of a watcher is told of its place
module _ {X : Type 0} (shelf : List X) (mind_of : X → Mind) (kind : ℕ) (slots : List ℕ) where
  pub free_at : (place : ℕ) (watcher d : X) (free : Bool) → place < length shelf → watcher ≡ slice_index_or shelf place d
      → free ≡ ((mind_of watcher).kind == kind && not (is_taken slots place)) → is_free kind slots (map mind_of shelf) place ≡ free
  free_at place watcher d free on is told =
      ap (λ mind. mind.kind == kind && not (is_taken slots place)) (get_or-map mind_of shelf place d (blank_mind 0) on ∙ ap mind_of (sym is))
      ∙ sym told
