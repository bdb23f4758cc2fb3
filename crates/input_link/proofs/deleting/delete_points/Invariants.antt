-- The counter's ledger is that of its blank.
use Rattle.input_link.proofs.deleting.delete_points.Given as goal

abbrev pub ghosts-points_around : goal.ghosts-points_around
ghosts-points_around a = record { name = a.blank.name; parts = a.blank.parts }
