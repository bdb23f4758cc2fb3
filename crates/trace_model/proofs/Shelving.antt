-- What settings load on a shelf, entry by entry.
use Rattle.std.proofs.Common.{ℕ, zero, suc, ◌≡◌, ◌≢◌, ◌+◌, ◌<◌, ◌≤◌, ◌++◌, ◌||◌, ◌==◌, ◌⊎◌, inl, inr, Bool, true, false, cond, not, List, [], ◌∷◌, length, Option}
use Rattle.std.proofs.Common.{Some, None, refl, sym, ap, subst, ◌∙◌, arith}
use Rattle.std.specs.Prelude.{slice_index, slice_set, option_map}
use Rattle.std.specs.List.{All, find, range_with_len}
use Rattle.std.specs.Option.{option_and_then, option_map_or}
use Rattle.std.proofs.lemmas.Bool.{both_ways, not-true, or_parts, and_parts, cases_lt}
use Rattle.std.proofs.lemmas.Bool.Decides.{nat_tests}
use Rattle.std.proofs.lemmas.List.{append_assoc, append-nil, length-append, length-set, get_or-set_same, get_or-set_other, get_or_append_left}
use Rattle.std.proofs.lemmas.List.Elements.{All-append, All-cons, All-nil}
use Rattle.std.proofs.lemmas.List.Folds.{list_any-append}
use Rattle.std.proofs.lemmas.Option.{none-some}
use Rattle.std.proofs.Math.Seq.{get_or-append_seam}
use Rattle.trace_model.specs.declared.settings.WatcherSetting.{WatcherSetting}
use Rattle.edit_model.specs.Minds.{Mind, blank_mind, loaded_mind}
use Rattle.trace_model.specs.Shelves.{Loaded, so_far, mind_at, is_taken, is_free, first_free, load_at, load_next, load_all, loaded_shelf}
use Rattle.trace_model.specs.ShelfLaws.{IsShelved, IsLoadedAs, IsLoaded, entry_at}

-- ---- the place that an entry takes

-- the number that is found is one of them, and passes the test
record IsFound (test : ℕ → Bool) (low count found : ℕ) : Type 0 where
  pub below : found < low + count
  pub passes : test found ≡ true

module _ (test : ℕ → Bool) (found : ℕ) where
  found_by : (low count : ℕ) → (find test (range_with_len (low + 1) count) ≡ Some found → IsFound test (low + 1) count found)
      → (passes : Bool) → test low ≡ passes
      → cond passes (Some low) (find test (range_with_len (low + 1) count)) ≡ Some found → IsFound test low (suc count) found
  found_by low count later true passes is = record { below = grind arith; passes = cc }
  found_by low count later false passes is =
      let there = later is in
      record { below = omega (arith, there.below); passes = there.passes }

  found_of : (low count : ℕ) → find test (range_with_len low count) ≡ Some found → IsFound test low count found
  found_of low zero is = absurd (none-some found is)
  found_of low (suc count) is = found_by low count (found_of (low + 1) count) (test low) refl is

-- a place that isn't taken is that of no slot
untaken : (slots : List ℕ) (place slot : ℕ) → is_taken slots place ≡ false → slot < length slots → slice_index slots slot ≢ place
untaken [] place slot free on = absurd (omega arith)
untaken (first ∷ slots) place zero free on =
    let here = (or_parts (first == place) (is_taken slots place) free).0 in
    λ same. grind (arith, nat_tests)
untaken (first ∷ slots) place (suc slot) free on =
    untaken slots place slot (or_parts (first == place) (is_taken slots place) free).1 (omega (arith, on))

-- what is loaded next
record IsNext (entry : WatcherSetting) (old new : Loaded) : Type 0 where
  pub place : ℕ
  pub mind : Mind
  pub on : place < length old.minds
  pub kind : (mind_at old.minds place).kind ≡ entry.kind
  pub free : is_taken old.slots place ≡ false
  pub loaded : loaded_mind (mind_at old.minds place) entry.numbers ≡ Some mind
  pub is : record old { slots = old.slots ++ place ∷ []; minds = slice_set old.minds place mind } ≡ new

module _ (entry : WatcherSetting) (old new : Loaded) where
  next_with : (place : ℕ) → IsFound (is_free entry.kind old.slots old.minds) 0 (length old.minds) place → (mind : Option Mind)
      → loaded_mind (mind_at old.minds place) entry.numbers ≡ mind
      → option_map (λ mind. record old { slots = old.slots ++ place ∷ []; minds = slice_set old.minds place mind }) mind ≡ Some new → IsNext entry old new
  next_with place found None loaded is = absurd (none-some new is)
  next_with place found (Some mind) loaded is =
      let parts = and_parts ((mind_at old.minds place).kind == entry.kind) (not (is_taken old.slots place)) found.passes in
      record {
        place = place;
        mind = mind;
        on = omega (arith, found.below);
        kind = grind (arith, nat_tests);
        free = not-true (is_taken old.slots place) parts.1;
        loaded = loaded;
        is = cc;
      }

  next_at : (place : Option ℕ) → first_free entry.kind old.slots old.minds ≡ place → option_and_then (load_at entry old) place ≡ Some new → IsNext entry old new
  next_at None first is = absurd (none-some new is)
  next_at (Some place) first is =
      next_with place (found_of (is_free entry.kind old.slots old.minds) place 0 (length old.minds) first)
      (loaded_mind (mind_at old.minds place) entry.numbers) refl is

  next_of : load_next entry old ≡ Some new → IsNext entry old new
  next_of is = next_at (first_free entry.kind old.slots old.minds) refl is

-- ---- the entries up to some count

record IsPart (entries : List WatcherSetting) (start : List Mind) (count : ℕ) (loaded : Loaded) : Type 0 where
  pub on_shelf : All (λ place. place < length start) loaded.slots
  pub kept : length loaded.minds ≡ length start
  pub long : length loaded.slots ≡ count
  pub is : IsLoaded entries start loaded

-- the mind of another watcher stays where one is loaded
kept_mind : (minds : List Mind) (place other : ℕ) (mind : Mind) → other ≢ place → mind_at (slice_set minds place mind) other ≡ mind_at minds other
kept_mind minds place other mind apart = get_or-set_other minds place other mind (blank_mind 0) apart

module _ (entries : List WatcherSetting) (start : List Mind) (count : ℕ) (old : Loaded) (part : IsPart entries start count old) (place : ℕ) (mind : Mind)
    (on : place < length old.minds) (kind : (mind_at old.minds place).kind ≡ (entry_at entries count).kind) (free : is_taken old.slots place ≡ false)
    (loaded : loaded_mind (mind_at old.minds place) (entry_at entries count).numbers ≡ Some mind) where
  abbrev slots : List ℕ
  slots = old.slots ++ place ∷ []

  abbrev minds : List Mind
  minds = slice_set old.minds place mind

  -- the slots before, and the last one
  before : (slot : ℕ) → slot < length old.slots → slice_index slots slot ≡ slice_index old.slots slot
  before slot on = get_or_append_left old.slots (place ∷ []) 0 slot on

  last : slice_index slots count ≡ place
  last = ap (slice_index slots) (sym part.long) ∙ get_or-append_seam old.slots place [] 0

  one_of : (slot : ℕ) → slot < length slots → (slot < length old.slots) ⊎ (slot ≡ count)
  one_of slot within = by_order (cases_lt slot (length old.slots))
    where
      by_order : (slot < length old.slots) ⊎ (length old.slots ≤ slot) → (slot < length old.slots) ⊎ (slot ≡ count)
      by_order (inl less) = inl less
      by_order (inr more) = inr (omega (arith, length-append old.slots (place ∷ []), part.long))

  each_by : (slot : ℕ) → (slot < length old.slots) ⊎ (slot ≡ count)
      → IsLoadedAs (entry_at entries slot) (mind_at start (slice_index slots slot)) (mind_at minds (slice_index slots slot))
  each_by slot (inl less) =
      let was = part.is.each slot less in
      let new : mind_at minds (slice_index old.slots slot) ≡ mind_at old.minds (slice_index old.slots slot) =
      kept_mind old.minds place (slice_index old.slots slot) mind (untaken old.slots place slot free less) in
      subst (λ at. IsLoadedAs (entry_at entries slot) (mind_at start at) (mind_at minds at)) (sym (before slot less))
      (subst (IsLoadedAs (entry_at entries slot) (mind_at start (slice_index old.slots slot))) (sym new) was)
  each_by slot (inr same) =
      let was : mind_at old.minds place ≡ mind_at start place = part.is.others place free in
      let new : mind_at minds place ≡ mind = get_or-set_same old.minds place mind (blank_mind 0) on in
      let here : IsLoadedAs (entry_at entries count) (mind_at start place) (mind_at minds place) =
      record {
        kind = ap (λ mind. mind.kind) (sym was) ∙ kind;
        loaded = ap (λ mind. loaded_mind mind (entry_at entries count).numbers) (sym was) ∙ loaded ∙ ap Some (sym new);
      } in
      subst (λ slot. IsLoadedAs (entry_at entries slot) (mind_at start (slice_index slots slot)) (mind_at minds (slice_index slots slot))) (sym same)
      (subst (λ at. IsLoadedAs (entry_at entries count) (mind_at start at) (mind_at minds at)) (sym last) here)

  apart_by : (slot other : ℕ) → slot < other → (other < length old.slots) ⊎ (other ≡ count) → slice_index slots slot ≢ slice_index slots other
  apart_by slot other less (inl within) =
      λ same. part.is.apart slot other less within (sym (before slot (omega (arith, less, within))) ∙ same ∙ before other within)
  apart_by slot other less (inr end) =
      λ same. untaken old.slots place slot free (omega (arith, part.long))
      (sym (before slot (omega (arith, part.long))) ∙ same ∙ ap (slice_index slots) end ∙ last)

  others_by : (at : ℕ) → (is_taken old.slots at ≡ false) × ((place == at) || false ≡ false) → mind_at minds at ≡ mind_at start at
  others_by at (old_free, new_free) =
      kept_mind old.minds place at mind (λ same. both_ways (place == at) (or_parts (place == at) false new_free).0 (grind (arith, nat_tests)))
      ∙ part.is.others at old_free

  part_more : IsPart entries start (count + 1) (record old { slots = slots; minds = minds })
  part_more = record {
    on_shelf = All-append (λ place. place < length start) old.slots (place ∷ []) part.on_shelf
        (All-cons (λ place. place < length start) place [] (omega (arith, part.kept)) (All-nil (λ place. place < length start)));
    kept = length-set old.minds place mind ∙ part.kept;
    long = omega (arith, length-append old.slots (place ∷ []), part.long);
    is = record {
      each = λ slot within. each_by slot (one_of slot within);
      apart = λ slot other less within. apart_by slot other less (one_of other within);
      others = λ at free.
          others_by at (or_parts (is_taken old.slots at) ((place == at) || false) (sym (list_any-append (λ slot. slot == at) old.slots (place ∷ [])) ∙ free));
    };
  }

part_next : (entries : List WatcherSetting) (start : List Mind) (count : ℕ) (old new : Loaded) → IsPart entries start count old
    → IsNext (entry_at entries count) old new → IsPart entries start (count + 1) new
part_next entries start count old new part next =
    subst (IsPart entries start (count + 1)) next.is (part_more entries start count old part next.place next.mind next.on next.kind next.free next.loaded)

-- ---- all entries

record IsWhole (entries : List WatcherSetting) (start : List Mind) (loaded : Loaded) : Type 0 where
  pub shelved : IsShelved entries start loaded
  pub is : IsLoaded entries start loaded

part_ended : (entries : List WatcherSetting) (start : List Mind) (loaded : Loaded) → IsPart entries start (length entries) loaded → IsWhole entries start loaded
part_ended entries start loaded part = record {
  shelved = record { on_shelf = part.on_shelf; kept = part.kept; few = omega (arith, part.long); all = λ fits. part.long };
  is = part.is;
}

part_stopped : (entries : List WatcherSetting) (start : List Mind) (count : ℕ) (loaded : Loaded) → count ≤ length entries → IsPart entries start count loaded
    → IsWhole entries start (record loaded { fits = false })
part_stopped entries start count loaded less part = record {
  shelved = record { on_shelf = part.on_shelf; kept = part.kept; few = omega (arith, part.long, less); all = λ fits. absurd cc };
  is = record { each = part.is.each; apart = part.is.apart; others = part.is.others };
}

module _ (start : List Mind) where
  -- what these entries load behind others
  abbrev LoadsBehind : List WatcherSetting → Type 0
  LoadsBehind left =
      (done : List WatcherSetting) (loaded : Loaded) → IsPart (done ++ left) start (length done) loaded → IsWhole (done ++ left) start (load_all left loaded)

  whole_by : (entry : WatcherSetting) (left : List WatcherSetting) → LoadsBehind left → (done : List WatcherSetting) (loaded : Loaded)
      → IsPart (done ++ entry ∷ left) start (length done) loaded → (next : Option Loaded) → load_next entry loaded ≡ next
      → IsWhole (done ++ entry ∷ left) start (option_map_or (load_all left) next (record loaded { fits = false }))
  whole_by entry left others done loaded part None is =
      part_stopped (done ++ entry ∷ left) start (length done) loaded (omega (arith, length-append done (entry ∷ left))) part
  whole_by entry left others done loaded part (Some new) is =
      let named : entry ≡ entry_at (done ++ entry ∷ left) (length done) = sym (get_or-append_seam done entry left _) in
      let next = subst (λ entry. IsNext entry loaded new) named (next_of entry loaded new is) in
      let more = part_next (done ++ entry ∷ left) start (length done) loaded new part next in
      let joined : done ++ entry ∷ left ≡ done ++ entry ∷ [] ++ left = sym (append_assoc done (entry ∷ []) left) in
      let count : length done + 1 ≡ length (done ++ entry ∷ []) = omega (arith, length-append done (entry ∷ [])) in
      subst (λ entries. IsWhole entries start (load_all left new)) (sym joined)
      (others (done ++ entry ∷ []) new
      (subst (λ entries. IsPart entries start (length (done ++ entry ∷ [])) new) joined
      (subst (λ count. IsPart (done ++ entry ∷ left) start count new) count more)))

  whole : (left : List WatcherSetting) → LoadsBehind left
  whole [] done loaded part =
      subst (λ entries. IsWhole entries start loaded) (sym (append-nil done))
      (part_ended done start loaded (subst (λ entries. IsPart entries start (length done) loaded) (append-nil done) part))
  whole (entry ∷ left) done loaded part = whole_by entry left (whole left) done loaded part (load_next entry loaded) refl

none_loaded : (entries : List WatcherSetting) (minds : List Mind) → IsPart entries minds 0 (so_far [] minds)
none_loaded entries minds = record {
  on_shelf = All-nil (λ place. place < length minds);
  kept = refl;
  long = refl;
  is = record { each = λ slot within. absurd (omega arith); apart = λ slot other less within. absurd (omega arith); others = λ place free. refl };
}

pub shelf_loaded : (entries : List WatcherSetting) (minds : List Mind)
    → IsShelved entries minds (loaded_shelf entries minds) × IsLoaded entries minds (loaded_shelf entries minds)
unfolding loaded_shelf
shelf_loaded entries minds =
    let all = whole minds entries [] (so_far [] minds) (none_loaded entries minds) in
    (all.shelved, all.is)
