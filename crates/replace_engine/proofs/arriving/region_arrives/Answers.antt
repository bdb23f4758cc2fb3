-- One more span comes or is skipped.
use Rattle.std.proofs.Common.{◌++◌}
use Rattle.span_table.specs.Table.{spans_of}
use Rattle.replace_engine.specs.Arrivals.{arrivals, stayed}
use Rattle.replace_engine.proofs.Arrived.{length-one}
use Rattle.replace_engine.proofs.arriving.region_arrives.Goals as goal

pub returns-in-Some : goal.returns-in-Some
returns-in-Some c =
    let stays = stayed c.args.cut.now (spans_of c.args.rows.now) in
    rw (c.in-Some.is, c.arrives.ensures)
    (length-one c.args.cut.now (stays ++ arrivals c.args.cut.now stays c.args.coming.now.spans.now) c.in-Some.region)
