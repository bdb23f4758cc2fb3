-- A number in decimal digits, read.
use Rattle.std.proofs.Common.{Some, None, decimal, sym, ◌∙◌, arith}
use Rattle.std.proofs.lemmas.Bool.{both_ways}
use Rattle.std.proofs.lemmas.Slice.Eq.{bytes_eq-Decides}
use Rattle.trace_words.proofs.Numbers.{whole_number-decimal, whole_number-unlike}
use Rattle.trace_words.proofs.words.number_from.Goals as goal

pub returns-in_err-number : goal.returns-in_err-number
returns-in_err-number c =
    c.from_residual.ensures
    ∙ whole_number-unlike c.args.digits.now c.parse.result None c.parse.ensures.value.0 (sym c.in_err-number.was ∙ c.ok.ensures.value) tt

pub returns-then-is_written : goal.returns-then-is_written
returns-then-is_written c =
    whole_number-decimal c.in_ok-number.number c.args.digits.now (omega arith)
    ((bytes_eq-Decides (decimal c.in_ok-number.number) c.args.digits.now).0 (sym c.is_written.ensures ∙ c.if-is_written.true))

pub returns-else-is_written : goal.returns-else-is_written
returns-else-is_written c =
    let number = c.in_ok-number.number in
    let digits = c.args.digits.now in
    whole_number-unlike digits c.parse.result (Some number) c.parse.ensures.value.0 (sym c.in_ok-number.was ∙ c.ok.ensures.value)
    (λ form. both_ways c.is_written.result c.if-is_written.false (c.is_written.ensures ∙ (bytes_eq-Decides (decimal number) digits).1 form))
