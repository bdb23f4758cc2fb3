-- What a command brings fits.
use Rattle.std.proofs.Common.{arith}
use Rattle.serde_json.specs.View.{view, members_view}
use Rattle.trace_words.proofs.Lines.{fits_ok, read_line-object}
use Rattle.trace_words.proofs.reading.read_line.Goals as goal

pub returns-in-Some-clause-fits : goal.returns-in-Some-clause-fits
returns-in-Some-clause-fits c =
    let line = c.args.bytes.now in
    let read = read_line-object line (view c.in_ok-value.value) (members_view c.in-Some.object.now.entries) (omega arith)
    c.in_ok-value.ensures.ok c.in-Some.ensures in
    fits_ok line c.command_of.result (rw read c.command_of.ensures.0)
