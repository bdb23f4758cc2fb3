-- Those that stay, and those that arrive, are too many; or else all rows leave room.
use Rattle.std.proofs.Common.{ap, length, arith}
use Rattle.std.proofs.lemmas.Bool.Decides.{nat_tests}
use Rattle.std.proofs.lemmas.List.{length-map}
use Rattle.span_table.specs.Table.{spans_of}
use Rattle.replace_engine.proofs.Arrived.{length-stayed-le}
use Rattle.replace_engine.proofs.judging.is_full.Goals as goal

pub returns-else-arrivals-most : goal.returns-else-arrivals-most
returns-else-arrivals-most c =
    let few = length-stayed-le c.args.cut.now (spans_of c.args.rows.now) in
    let rows = ap length c.rows.ensures.kept in
    grind (arith, nat_tests, length-map)
