-- Where no byte is left, no line is.
use Rattle.replay_cli.proofs.Cutting.{no_bytes, lines-none}
use Rattle.replay_cli.proofs.lines.next_line.Goals as goal

pub returns-in-None-2-clause-lines : goal.returns-in-None-2-clause-lines
returns-in-None-2-clause-lines c =
    lines-none c.args.is_cut c.args.bytes.now c.if-is_cut.false (no_bytes c.args.bytes.now c.if-is_empty.ensures)
