-- A line whose value is an object.
use Rattle.std.proofs.Common.{ℕ, ◌≡◌, ◌≤◌, false, List, length, Some, Result, Ok, Err, sym, ap, ◌∙◌, arith}
use Rattle.std.specs.Prelude.{IfOk, nat_lt}
use Rattle.std.proofs.lemmas.Bool.{cond-false}
use Rattle.std.proofs.lemmas.Bool.Decides.{nat_tests}
use Rattle.serde_json.specs.Data.{Data, Members}
use Rattle.serde_json.specs.Find.{as_object}
use Rattle.edit_base.specs.declared.bounds.TheConstants.Limits.{LINE_BYTES}
use Rattle.trace_model.specs.declared.commands.Command.{Command}
use Rattle.trace_model.specs.declared.faults.TraceFault.{TraceFault}
use Rattle.trace_model.specs.declared.faults.TraceFault.TheVariants as fault
use Rattle.trace_model.specs.Reading.{json_of, op_in, read_operation, read_object, read_value, read_command, IsFitting}
use Rattle.trace_model.proofs.Readings.{fits-read_command}

pub read_line-object : (line : List ℕ) (value : Data) (members : Members) → length line ≤ LINE_BYTES → json_of line ≡ Some value
    → Some members ≡ as_object value → read_command line ≡ read_operation members (op_in members)
unfolding read_command
read_line-object line value object short is found =
    let within : nat_lt LINE_BYTES (length line) ≡ false = grind (arith, nat_tests) in
    cond-false (nat_lt LINE_BYTES (length line)) (Err fault.LineTooLong) (read_value (json_of line)) within
    ∙ ap read_value is ∙ ap read_object (sym found)

-- a command that was read fits
pub fits_ok : (line : List ℕ) (read : Result Command TraceFault) → IfOk read (λ asked. read_command line ≡ Ok asked) → IfOk read IsFitting
fits_ok line (Ok asked) is = let fits = fits-read_command line in rw is at fits
fits_ok line (Err it) is = tt
