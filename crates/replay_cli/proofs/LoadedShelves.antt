-- The places that the settings' watchers take.
use Rattle.std.proofs.Common.{◌≡◌, ℕ, true, List, [], ap}
use Rattle.trace_model.specs.declared.settings.WatcherSetting.{WatcherSetting}
use Rattle.edit_model.specs.Minds.{Mind}
use Rattle.trace_model.specs.Shelves.{loaded_shelf}
use Rattle.trace_model.proofs.Shelving.{shelf_loaded}
use Rattle.watcher_rounds.specs.Rounds.{AreOnShelf}

-- the places that the watchers took are places of the shelf then
pub taken-on_shelf : (entries : List WatcherSetting) (minds after : List Mind) (slots : List ℕ) → slots ≡ (loaded_shelf entries minds).slots
    → after ≡ (loaded_shelf entries minds).minds → AreOnShelf slots after
taken-on_shelf entries minds after slots taken kept =
    let seats = (shelf_loaded entries minds).0 in rw taken (rw kept (rw seats.kept seats.on_shelf))

-- settings that ask for no watcher load
pub none-fits : (entries : List WatcherSetting) (minds : List Mind) → entries ≡ [] → (loaded_shelf entries minds).fits ≡ true
unfolding loaded_shelf
none-fits entries minds none = ap (λ es. (loaded_shelf es minds).fits) none
