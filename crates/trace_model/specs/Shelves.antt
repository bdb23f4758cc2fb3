-- Which watchers of a shelf the settings load, and with what.
use Rattle.std.specs.Prelude.{ℕ, ◌++◌, ◌&&◌, ◌==◌, Bool, true, false, not, List, [], ◌∷◌, length, slice_index_or, slice_set, Option, option_map}
use Rattle.std.specs.Option.{option_map_or, option_and_then}
use Rattle.std.specs.List.{find, list_any, range_with_len}
use Rattle.trace_model.specs.declared.settings.WatcherSetting.{WatcherSetting}
use Rattle.edit_model.specs.Minds.{Mind, blank_mind, loaded_mind}

-- how far the entries of the settings got: the places on the shelf that they took, one a slot in the order of the entries;
-- the minds of the whole shelf; and whether each entry found a watcher that it could load
pub record Loaded : Type 0 where
  pub slots : List ℕ
  pub minds : List Mind
  pub fits : Bool

-- every entry up to here found its watcher, and took these places
abbrev pub so_far : List ℕ → List Mind → Loaded
so_far slots minds = record { slots = slots; minds = minds; fits = true }

-- the mind of the watcher at a place
abbrev pub mind_at : List Mind → ℕ → Mind
mind_at minds place = slice_index_or minds place (blank_mind 0)

-- an entry took this place
abbrev pub is_taken : List ℕ → ℕ → Bool
is_taken slots place = list_any (λ slot. slot == place) slots

-- the watcher at a place is of this kind, and no entry took it
abbrev pub is_free : ℕ → List ℕ → List Mind → ℕ → Bool
is_free kind slots minds place = (mind_at minds place).kind == kind && not (is_taken slots place)

-- the first place of the shelf that is free for a kind
abbrev pub first_free : ℕ → List ℕ → List Mind → Option ℕ
first_free kind slots minds = find (is_free kind slots minds) (range_with_len 0 (length minds))

-- an entry takes a place and loads the watcher there, where that may be loaded with its numbers
abbrev pub load_at : WatcherSetting → Loaded → ℕ → Option Loaded
load_at entry before place =
    option_map (λ mind. record before { slots = before.slots ++ place ∷ []; minds = slice_set before.minds place mind })
    (loaded_mind (mind_at before.minds place) entry.numbers)

-- an entry takes the first place that is free for its kind
abbrev pub load_next : WatcherSetting → Loaded → Option Loaded
load_next entry before = option_and_then (load_at entry before) (first_free entry.kind before.slots before.minds)

-- the entries one after the other, up to the first that loads nothing; what the others loaded stays
abbrev pub load_all : List WatcherSetting → Loaded → Loaded
load_all [] before = before
load_all (entry ∷ entries) before = option_map_or (load_all entries) (load_next entry before) (record before { fits = false })

-- what the entries of the settings load on a shelf of these minds
unfoldable pub loaded_shelf : List WatcherSetting → List Mind → Loaded
loaded_shelf entries minds = load_all entries (so_far [] minds)
