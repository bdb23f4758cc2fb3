use Rattle.trace_model.proofs.Newlines.{cut-trace_lines, open_line_left}
use Rattle.trace_model.proofs.laws.lines_are_cut_at_newlines.Goals as goal

pub returns-clause-whole : goal.returns-clause-whole
returns-clause-whole c = cut-trace_lines

pub returns-clause-over_limit : goal.returns-clause-over_limit
returns-clause-over_limit c = open_line_left
