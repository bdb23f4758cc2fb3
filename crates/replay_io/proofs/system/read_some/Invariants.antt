-- The buffer keeps its length, and a read that was cut short took nothing.
use Rattle.std.proofs.Common.{◌≡◌, length}
use Rattle.std.specs.Io.KnownBytes.{Keeps}
use Rattle.replay_io.proofs.system.read_some.Given as goal

abbrev pub invariant-loop : goal.invariant-loop
invariant-loop g l = record {
  buffer : length l.buf ≡ length l.initial.buf;
  kept : Keeps (g.F.Read.remaining l.initial.file) (g.F.Read.remaining l.file);
}
