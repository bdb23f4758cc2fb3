-- Four words and more.
use Rattle.std.proofs.Common.{◌≡◌, ◌∷◌, ap, sym, ◌∙◌}
use Rattle.trace_model.specs.Words.{words_of, what_by_words}
use Rattle.trace_words.proofs.Cuts.{many-words}
use Rattle.trace_words.proofs.words.what_from.Goals as goal

pub returns-in-Some-cut-2 : goal.returns-in-Some-cut-2
returns-in-Some-cut-2 c =
    let third = c.in-Some-cut-2.field-0.0.now in
    let rest = c.in-Some-cut-2.field-0.1.now in
    let all : words_of c.args.text.now ≡ c.in-Some.name.now ∷ c.in-Some-cut.first.now ∷ third ∷ words_of rest =
    cc (c.in-Some.ensures, c.in-Some-cut.ensures, c.in-Some-cut-2.ensures) in
    sym (ap what_by_words all ∙ many-words c.in-Some.name.now c.in-Some-cut.first.now third rest)
