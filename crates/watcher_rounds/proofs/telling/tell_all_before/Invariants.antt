-- Those so far were told.
use Rattle.std.proofs.Common.{ℕ, [], map, take}
use Rattle.edit_model.specs.Machine.{tell_before}
use Rattle.watcher_rounds.specs.Rounds.{setup_of, stands, AreOnShelf, Tells}
use Rattle.watcher_rounds.proofs.telling.tell_all_before.Given as goal

abbrev pub invariant-loop-slot : goal.invariant-loop-slot
invariant-loop-slot g l = record {
  shelf : AreOnShelf l.round.slots.now.items (g.S.Shelf.minds l.shelf);
  told : (begun : ℕ) → Tells (setup_of l.round) (map (λ slot. tell_before slot l.event) (take l.slot-index l.slots)) []
      (stands l.text.state (g.S.Shelf.minds l.initial.shelf) l.initial.log.items begun)
      (stands l.text.state (g.S.Shelf.minds l.shelf) l.log.items begun);
}
