-- The counter is the one that the call starts.
use Rattle.call_tests.proofs.rounds.ends.Given as goal

abbrev pub ghosts-play : goal.ghosts-play
ghosts-play g a = record { name = a.blank.name; parts = a.blank.parts }
