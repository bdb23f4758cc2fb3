-- Within the files stands the file that was got, and behind them none.
use Rattle.std.proofs.Common.{sym, ◌∙◌, arith}
use Rattle.std.proofs.lemmas.List.{length-map}
use Rattle.replay_io.specs.Stored.{file_of}
use Rattle.replay_io.proofs.Places.{bytes_at-past, bytes_at-get_or}
use Rattle.replay_io.proofs.stored.bytes_at.Goals as goal

pub returns-in-Some : goal.returns-in-Some
returns-in-Some c =
    let found = c.in-Some.ensures.lookup in
    c.as_slice.ensures.value ∙ sym (bytes_at-get_or c.args.files.now c.args.place _ found.3.0 found.1)

pub returns-in-None : goal.returns-in-None
returns-in-None c =
    sym (bytes_at-past c.args.place _ (omega (arith, c.in-None.ensures.lookup.3, length-map c.args.files.now file_of)))
