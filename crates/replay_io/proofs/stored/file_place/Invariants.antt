-- The files from here on give the place, counted from here.
use Rattle.std.proofs.Common.{◌≡◌, ◌+◌, drop, map}
use Rattle.replay_io.specs.Stored.{file_of, file_place}
use Rattle.replay_io.proofs.stored.file_place.Given as goal

abbrev pub invariant-loop-place : goal.invariant-loop-place
invariant-loop-place l = file_place l.name (map file_of (drop l.place l.files)) + l.place ≡ file_place l.name (map file_of l.files)
