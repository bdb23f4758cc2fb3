-- Each computes.
use Rattle.std.proofs.Common.{refl}
use Rattle.std.specs.Fmt.{digits}
use Rattle.std.specs.Str.{is_utf8, chars}
use Rattle.serde_json.proofs.OnLiterals.{serde_json_on_literals}
use Rattle.trace_model.specs.Words.{words_of}
use Rattle.trace_model.specs.Reading.{read_command}
use Rattle.trace_model.proofs.examples.reads_lines.Goals as goal

pub returns-clause-lines : goal.returns-clause-lines
unfolding serde_json_on_literals is_utf8 chars digits words_of read_command
returns-clause-lines c = (refl, refl, refl, refl, refl, refl)

pub returns-clause-spans : goal.returns-clause-spans
unfolding serde_json_on_literals is_utf8 chars digits words_of read_command
returns-clause-spans c = (refl, refl)

pub returns-clause-connections : goal.returns-clause-connections
unfolding serde_json_on_literals is_utf8 chars digits words_of read_command
returns-clause-connections c = (refl, refl, refl, refl, refl, refl, refl)
