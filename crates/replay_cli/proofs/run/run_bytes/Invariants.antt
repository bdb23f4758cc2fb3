-- The counter's ledger is the one that it is started with.
use Rattle.replay_cli.proofs.run.run_bytes.Given as goal

abbrev pub ghosts-play_counted : goal.ghosts-play_counted
ghosts-play_counted g a = record { name = a.blank.name; parts = a.blank.parts }
