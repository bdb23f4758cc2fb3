-- What was taken so far stands in `out`, and there is room for the rest of the limit.
use Rattle.std.proofs.Common.{ℕ, ◌≡◌, ◌+◌, ◌++◌, List, length}
use Rattle.replay_io.specs.declared.whole_files.TheConstants.{PIECE_BYTES}
use Rattle.replay_io.proofs.Turns.{Takes}
use Rattle.replay_io.proofs.whole_files.read_rest.Given as goal

abbrev pub invariant-loop-count : goal.invariant-loop-count
invariant-loop-count g l = record {
  buffer : length l.buf ≡ PIECE_BYTES;
  gained : (gained : List ℕ) × (l.out.items ≡ l.initial.out.items ++ gained) × (length gained + l.room ≡ l.limit)
      × Takes (g.S.Store.left l.initial.store) gained (g.S.Store.left l.store);
  asked : g.S.Store.asked l.store ≡ g.S.Store.asked l.initial.store;
  stands : (other : List ℕ) → g.S.Store.stands l.store other ≡ g.S.Store.stands l.initial.store other;
  quiet : g.S.Store.faults l.store ≡ g.S.Store.faults l.initial.store;
}

abbrev pub decreases-loop-count : goal.decreases-loop-count
decreases-loop-count g l = l.room
