-- One entry's load, at a shelf whose watchers are seen as their minds.
use Rattle.std.proofs.Common.{ℕ, ◌≡◌, ◌+◌, ◌<◌, ◌≤◌, false, ◌++◌, List, [], ◌∷◌, length, drop, Option, Some, None, map, ap, sym, subst, refl, arith, ◌∙◌}
use Rattle.std.proofs.lemmas.List.{get_or-map, map-set, at_drop_more, at_drop_all, length-append}
use Rattle.std.specs.List.{All}
use Rattle.std.specs.Option.{option_and_then, option_map_or}
use Rattle.std.specs.Prelude.{slice_index_or, slice_set, option_map}
use Rattle.trace_model.specs.declared.settings.WatcherSetting.{WatcherSetting}
use Rattle.trace_model.specs.ShelfLaws.{IsShelved}
use Rattle.trace_model.proofs.Shelving.{shelf_loaded}
use Rattle.edit_model.specs.Minds.{Mind, blank_mind, loaded_mind}
use Rattle.trace_model.specs.Shelves.{Loaded, so_far, first_free, mind_at, load_at, load_next, load_all, loaded_shelf}

module _ {X : Type 0} (shelf : List X) (mind_of : X → Mind) (entry : WatcherSetting) (slots : List ℕ) where
  abbrev shelved : List Mind
  shelved = map mind_of shelf

  -- the first place that is free, among watchers that are those of the shelf
  abbrev first_in : List X → Option ℕ
  first_in seen = first_free entry.kind slots (map mind_of seen)

  -- a mind that is loaded at a place, where one is
  abbrev put_at : ℕ → Option Mind → Option Loaded
  put_at place mind = option_map (λ mind. so_far (slots ++ place ∷ []) (slice_set shelved place mind)) mind

  -- what is loaded is loaded at the place that was found
  found_at : (seen : List X) (found : Option ℕ) → seen ≡ shelf → found ≡ first_in seen
      → load_next entry (so_far slots shelved) ≡ option_and_then (load_at entry (so_far slots shelved)) found
  found_at seen found same first = ap (option_and_then (load_at entry (so_far slots shelved))) (sym (first ∙ ap first_in same))

  -- the mind that is loaded there is that of the watcher there
  mind_there : (place : ℕ) (watcher d : X) → place < length shelf → watcher ≡ slice_index_or shelf place d
      → mind_at shelved place ≡ mind_of watcher
  mind_there place watcher d on is = get_or-map mind_of shelf place d (blank_mind 0) on ∙ ap mind_of (sym is)

  module _ (seen : List X) (place : ℕ) (old new d : X) (numbers : List ℕ) (same : seen ≡ shelf) (first : Some place ≡ first_in seen)
      (on : place < length seen) (is : old ≡ slice_index_or shelf place d) (given : numbers ≡ entry.numbers) where
    -- the watcher at the place is tried with the entry's numbers
    tried : load_next entry (so_far slots shelved) ≡ put_at place (loaded_mind (mind_of old) numbers)
    tried =
        let within : place < length shelf = subst (λ watchers. place < length watchers) same on in
        found_at seen (Some place) same first
        ∙ ap (λ mind. put_at place (loaded_mind mind entry.numbers)) (mind_there place old d within is)
        ∙ ap (λ list. put_at place (loaded_mind (mind_of old) list)) (sym given)

    pub is_loaded : loaded_mind (mind_of old) numbers ≡ Some (mind_of new)
        → load_next entry (so_far slots shelved) ≡ Some (so_far (slots ++ place ∷ []) (map mind_of (slice_set shelf place new)))
    is_loaded loaded =
        tried
        ∙ ap (put_at place) loaded
        ∙ ap (λ minds. Some (so_far (slots ++ place ∷ []) minds)) (sym (map-set mind_of shelf place new))

    pub is_refused : loaded_mind (mind_of old) numbers ≡ None → load_next entry (so_far slots shelved) ≡ None
    is_refused refused = tried ∙ ap (put_at place) refused

-- ---- all entries

-- so many entries loaded their watchers on a shelf that had these minds at the start
pub record IsSoFar (entries : List WatcherSetting) (start : List Mind) (slots : List ℕ) (minds : List Mind) (count : ℕ) : Type 0 where
  pub goes : load_all (drop count entries) (so_far slots minds) ≡ loaded_shelf entries start
  pub long : length slots ≡ count

module _ (entries : List WatcherSetting) (start : List Mind) where
  pub begins : IsSoFar entries start [] start 0
  unfolding loaded_shelf
  begins = record { goes = refl; long = refl }

  pub ends : (slots : List ℕ) (minds : List Mind) (count : ℕ) → length entries ≤ count → IsSoFar entries start slots minds count
      → so_far slots minds ≡ loaded_shelf entries start
  ends slots minds count all is = sym (at_drop_all (λ left. load_all left (so_far slots minds)) entries count all) ∙ is.goes

  -- where all loaded, each slot's watcher stands on the shelf
  pub all_seated : (slots : List ℕ) (minds : List Mind) → so_far slots minds ≡ loaded_shelf entries start → All (λ place. place < length minds) slots
  all_seated slots minds ended =
      let seated = subst (IsShelved entries start) (sym ended) (shelf_loaded entries start).0 in
      subst (λ count. All (λ place. place < count) slots) (sym seated.kept) seated.on_shelf

  module _ (slots : List ℕ) (minds : List Mind) (count : ℕ) (entry d : WatcherSetting) (left : count < length entries)
      (named : entry ≡ slice_index_or entries count d) (is : IsSoFar entries start slots minds count) where
    -- what the next entry loads goes on to what all load
    next : option_map_or (load_all (drop (count + 1) entries)) (load_next entry (so_far slots minds)) (record (so_far slots minds) { fits = false })
        ≡ loaded_shelf entries start
    next =
        ap (λ entry. load_all (entry ∷ drop (count + 1) entries) (so_far slots minds)) named
        ∙ sym (at_drop_more (λ left. load_all left (so_far slots minds)) entries count d left)
        ∙ is.goes

    pub goes_on : (seen more : List ℕ) (place : ℕ) (new : List Mind) → seen ≡ slots → more ≡ slots ++ place ∷ []
        → load_next entry (so_far seen minds) ≡ Some (so_far (seen ++ place ∷ []) new) → IsSoFar entries start more new (count + 1)
    goes_on seen more place new same longer loaded =
        let there : load_next entry (so_far slots minds) ≡ Some (so_far more new) =
        ap (λ slots. load_next entry (so_far slots minds)) (sym same) ∙ loaded
        ∙ ap (λ slots. Some (so_far slots new)) (ap (λ slots. slots ++ place ∷ []) same ∙ sym longer) in
        record {
          goes = sym (ap (λ it. option_map_or (load_all (drop (count + 1) entries)) it (record (so_far slots minds) { fits = false })) there) ∙ next;
          long = omega (arith, ap length longer, length-append slots (place ∷ []), is.long);
        }

    pub stops : (seen : List ℕ) → seen ≡ slots → load_next entry (so_far seen minds) ≡ None
        → record (so_far slots minds) { fits = false } ≡ loaded_shelf entries start
    stops seen same none =
        sym (ap (λ it. option_map_or (load_all (drop (count + 1) entries)) it (record (so_far slots minds) { fits = false }))
        (ap (λ slots. load_next entry (so_far slots minds)) (sym same) ∙ none))
        ∙ next
