-- What settings load on a shelf, as laws.
use Rattle.std.specs.Prelude.{ℕ, ◌≡◌, ◌≢◌, ◌≤◌, ◌<◌, true, false, List, [], length, map, codes, slice_index, slice_index_or, Some, Ok}
use Rattle.std.specs.List.{All}
use Rattle.trace_model.specs.declared.settings.WatcherSetting.{WatcherSetting}
use Rattle.edit_model.specs.Minds.{Mind, Rules, kinds, rules_of, note, pair, swap, limit, squeeze, paint, follow, echo, loaded_mind}
use Rattle.trace_model.specs.Settings.{watcher_kinds, kind_named}
use Rattle.trace_model.specs.Shelves.{Loaded, loaded_shelf, mind_at, is_taken}

-- each slot's watcher stands on the shelf, which has as many watchers as before; no more slots were taken than there are
-- entries, and as many where each entry found its watcher
pub record IsShelved (entries : List WatcherSetting) (minds : List Mind) (loaded : Loaded) : Type 0 where
  pub on_shelf : All (λ place. place < length minds) loaded.slots
  pub kept : length loaded.minds ≡ length minds
  pub few : length loaded.slots ≤ length entries
  pub all : loaded.fits ≡ true → length loaded.slots ≡ length entries

abbrev pub ShelvesWatchers : Type 0
ShelvesWatchers = (entries : List WatcherSetting) (minds : List Mind) → IsShelved entries minds (loaded_shelf entries minds)

-- the entry of a slot
abbrev pub entry_at : List WatcherSetting → ℕ → WatcherSetting
entry_at entries slot = slice_index_or entries slot (record { kind = 0; numbers = [] })

-- a watcher was of the entry's kind, and was loaded with the entry's numbers
pub record IsLoadedAs (entry : WatcherSetting) (old new : Mind) : Type 0 where
  pub kind : old.kind ≡ entry.kind
  pub loaded : loaded_mind old entry.numbers ≡ Some new

-- the watcher in each slot was loaded as the slot's entry says; no watcher is in two slots; the others are as before
pub record IsLoaded (entries : List WatcherSetting) (minds : List Mind) (loaded : Loaded) : Type 0 where
  pub each : (slot : ℕ) → slot < length loaded.slots
      → IsLoadedAs (entry_at entries slot) (mind_at minds (slice_index loaded.slots slot)) (mind_at loaded.minds (slice_index loaded.slots slot))
  pub apart : (slot other : ℕ) → slot < other → other < length loaded.slots → slice_index loaded.slots slot ≢ slice_index loaded.slots other
  pub others : (place : ℕ) → is_taken loaded.slots place ≡ false → mind_at loaded.minds place ≡ mind_at minds place

abbrev pub LoadsWatchers : Type 0
LoadsWatchers = (entries : List WatcherSetting) (minds : List Mind) → IsLoaded entries minds (loaded_shelf entries minds)

-- ---- names

-- settings that name a kind so mean this number, whose row of the table of kinds has these rules
pub record Names (name : List ℕ) (kind : ℕ) (rules : Rules) : Type 0 where
  pub number : kind_named name ≡ Ok kind
  pub row : rules_of kind ≡ rules

-- each name means the kind that is called so
abbrev pub NamesKinds : Type 0
NamesKinds =
    Names (codes "note") 0 note
    × Names (codes "pair") 1 pair
    × Names (codes "swap") 2 swap
    × Names (codes "limit") 3 limit
    × Names (codes "squeeze") 4 squeeze
    × Names (codes "paint") 5 paint
    × Names (codes "follow") 6 follow
    × Names (codes "echo") 7 echo

-- the names are those of all kinds, in the order of the kinds, and of no other
abbrev pub NamesAllKinds : Type 0
NamesAllKinds = map (λ row. row.1) watcher_kinds ≡ map (λ row. row.0) kinds
