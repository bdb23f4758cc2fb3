-- The slot that ends last is one of the four.
use Rattle.std.proofs.Common.{◌/◌, arith}
use Rattle.std.proofs.lemmas.Bool.{ltb-false}
use Rattle.span_order.proofs.hits.is_passed.Goals as goal

pub bounds-asked-last : goal.bounds-asked-last
bounds-asked-last c =
    let there = c.requires.top.there (c.args.at / 4) (omega arith) in
    rw (← there.1.1.1) ((c.requires.numbers there.0 0 there.1.1.0).1)

pub returns-clause-left : goal.returns-clause-left
returns-clause-left c = λ left.
    let there = c.requires.top.there (c.args.at / 4) (omega arith) in
    (there.0, (omega (arith, there.1.0), (grind (arith, there.1.0, there.1.1.0), rw there.1.1.1 (ltb-false _ _ left))))
