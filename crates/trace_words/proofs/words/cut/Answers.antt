-- A text cut at its first space.
use Rattle.std.proofs.Common.{lit<}
use Rattle.std.proofs.lemmas.Str.Pattern.{split_once_first}
use Rattle.trace_words.proofs.Cuts.{words-cut}
use Rattle.trace_words.proofs.words.cut.Goals as goal

pub returns : goal.returns
returns c = words-cut c.args.text.now c.split_once.result (split_once_first 32 c.args.text.now c.split_once.result c.split_once.ensures.cases (lit< tt))
