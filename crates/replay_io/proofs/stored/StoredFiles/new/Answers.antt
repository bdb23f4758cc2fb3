-- Behind the last file stand no bytes.
use Rattle.std.proofs.Common.{map, arith}
use Rattle.std.proofs.lemmas.List.{length-map}
use Rattle.replay_io.specs.Stored.{file_of}
use Rattle.replay_io.proofs.Places.{bytes_at-past}
use Rattle.replay_io.proofs.stored.StoredFiles.new.Goals as goal

pub returns : goal.returns
returns c =
    let files = c.args.files in
    cc (bytes_at-past c.len-current.result (map file_of files.items)
    (omega (arith, length-map files.items file_of, files.ok.0)))
