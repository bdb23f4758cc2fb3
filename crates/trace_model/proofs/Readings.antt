-- What is known of a command that was read.
use Rattle.std.proofs.Common.{◌≡◌, ◌≤◌, ℕ, Bool, true, false, cond, leb, List, [], ◌∷◌, length, Option, Some, None, Result, Err}
use Rattle.std.proofs.Common.{refl, arith}
use Rattle.std.specs.Prelude.{IfSome, IfOk, nat_lt, unwrap_or, codes}
use Rattle.std.specs.Option.{option_map, option_and_then}
use Rattle.std.proofs.lemmas.Bool.Decides.{nat_tests}
use Rattle.std.specs.List.{AllByRecursion}
use Rattle.std.proofs.lemmas.List.Elements.{All-from_recursion}
use Rattle.serde_json.specs.Data.{Data, Items, no_items, item, Members}
use Rattle.serde_json.specs.Find.{as_str, as_array, as_object}
use Rattle.edit_base.specs.declared.bounds.TheConstants.Limits.{LINE_BYTES, LINE_SPANS}
use Rattle.edit_base.specs.declared.kinds.What.{What}
use Rattle.edit_base.specs.declared.rows.NewSpan.{NewSpan}
use Rattle.trace_model.specs.declared.commands.Command.{Command}
use Rattle.trace_model.specs.declared.faults.TraceFault.{TraceFault}
use Rattle.trace_model.specs.declared.faults.TraceFault.TheVariants as fault
use Rattle.edit_base.specs.declared.rows.TheConstants.Incoming.{MOST}
use Rattle.edit_model.specs.Brought.{IsOrdered, IsBrought}
use Rattle.trace_model.specs.Words.{as_span, words_of, span_by_words, ordered_span, whole_number, what_by_words, greatest_id}
use Rattle.trace_model.specs.declared.operations.Op.{Op}
use Rattle.trace_model.specs.declared.operations.Op.TheVariants.{Replace, Compose, Commit}
use Rattle.trace_model.specs.Operations.{operation}
use Rattle.trace_model.specs.Reading.{utf16, as_incoming, text_of, text_in, value_in, spans_said, as_few, spans_or_none, spans_in, incoming_in}
use Rattle.trace_model.specs.Reading.{op_in, first_fault, fault_lines, unless_fault, command_in, read_operation, read_object, read_value, json_of}
use Rattle.trace_model.specs.Reading.{read_command, IsFitting}

-- what holds of each value that a step gives holds of what the chain gives
chained : {X Y : Type 0} (P : Y → Type 0) (f : X → Option Y) → ((x : X) → IfSome (f x) P) → (o : Option X) → IfSome (option_and_then f o) P
chained P f each None = tt
chained P f each (Some x) = each x

-- and of what stands for it where there is none
or_else : {X : Type 0} (P : X → Type 0) (o : Option X) (d : X) → IfSome o P → P d → P (unwrap_or o d)
or_else P None d h k = k
or_else P (Some x) d h k = h

abbrev IsShort : List ℕ → Type 0
IsShort units = length units ≤ MOST

within : (units : List ℕ) → IfSome (as_incoming units) IsShort
within units = at (leb (length units) MOST) refl
  where
    at : (test : Bool) → leb (length units) MOST ≡ test → IfSome (cond test (Some units) None) IsShort
    at true h = grind (arith, nat_tests)
    at false h = tt

short_text : (value : Data) → IfSome (text_of value) IsShort
short_text value = chained IsShort as_incoming within (option_map utf16 (as_str value))

short_text_in : (name : List ℕ) (members : Members) → IsShort (text_in name members)
short_text_in name members =
    or_else IsShort (option_and_then text_of (value_in name members)) [] (chained IsShort text_of short_text (value_in name members)) (omega arith)

-- ---- spans

ordered_if : (test : Bool) (span : NewSpan) → (test ≡ true → IsOrdered span) → IfSome (cond test (Some span) None) IsOrdered
ordered_if true span is = is refl
ordered_if false span is = tt

ordered_one : (id start end flags : ℕ) (it : What) → IfSome (ordered_span id start end flags it) IsOrdered
ordered_one id start end flags it =
    ordered_if (leb start end) (record { id = id; start = start; end = end; flags = flags; what = it }) (λ is. grind (arith, nat_tests))

ordered_words : (words : List (List ℕ)) → IfSome (span_by_words words) IsOrdered
ordered_words [] = tt
ordered_words (a ∷ []) = tt
ordered_words (a ∷ b ∷ []) = tt
ordered_words (a ∷ b ∷ c ∷ []) = tt
ordered_words (a ∷ b ∷ c ∷ d ∷ words) =
    chained IsOrdered _ (λ id. chained IsOrdered _ (λ start. chained IsOrdered _ (λ end. chained IsOrdered _ (λ flags.
    chained IsOrdered _ (λ it. ordered_one id start end flags it) (what_by_words words))
    (whole_number greatest_id d)) (whole_number greatest_id c)) (whole_number greatest_id b)) (whole_number greatest_id a)

abbrev AreOrdered : List NewSpan → Type 0
AreOrdered brought = AllByRecursion IsOrdered brought

one_more : (first : Option NewSpan) (others : Option (List NewSpan)) → IfSome first IsOrdered → IfSome others AreOrdered
    → IfSome (option_and_then (λ span. option_map (λ rest. span ∷ rest) others) first) AreOrdered
one_more None others here there = tt
one_more (Some span) None here there = tt
one_more (Some span) (Some rest) here there = (here, there)

ordered_said : (items : Items) → IfSome (spans_said items) AreOrdered
ordered_said no_items = tt
ordered_said (item value items) =
    one_more (option_and_then as_span (as_str value)) (spans_said items)
    (chained IsOrdered as_span (λ text. ordered_words (words_of text)) (as_str value)) (ordered_said items)

-- few spans, each with its ends in order
abbrev AreFewOrdered : List NewSpan → Type 0
AreFewOrdered brought = (length brought ≤ MOST) × AreOrdered brought

few_if : (test : Bool) (brought : List NewSpan) → (test ≡ true → length brought ≤ MOST) → AreOrdered brought
    → IfSome (cond test (Some brought) None) AreFewOrdered
few_if true brought few each = (few refl, each)
few_if false brought few each = tt

few_of : (found : Option (List NewSpan)) → IfSome found AreOrdered → IfSome (option_and_then as_few found) AreFewOrdered
few_of None each = tt
few_of (Some brought) each = few_if (leb (length brought) LINE_SPANS) brought (λ is. grind (arith, nat_tests)) each

few_or_none : (found : Option Data) → IfSome (spans_or_none found) AreFewOrdered
few_or_none None = (omega arith, tt)
few_or_none (Some value) = few_of (option_and_then spans_said (as_array value)) (chained AreOrdered spans_said ordered_said (as_array value))

few_in : (name : List ℕ) (members : Members) → AreFewOrdered (spans_in name members)
few_in name members = or_else AreFewOrdered (spans_or_none (value_in name members)) [] (few_or_none (value_in name members)) (omega arith, tt)

brought_in : (members : Members) → IsBrought (incoming_in members)
brought_in members =
    let few = few_in (codes "spans") members in
    record {
      units = short_text_in (codes "text") members;
      spans = few.0;
      ordered = All-from_recursion IsOrdered (spans_in (codes "spans") members) few.1;
    }

fits_command : (op : Op) (members : Members) → IsFitting (command_in op members)
fits_command Replace members = brought_in members
fits_command Compose members = brought_in members
fits_command Commit members = brought_in members
fits_command _ _ = tt

fits_unless : (found : Option TraceFault) (asked : Command) → IsFitting asked → IfOk (unless_fault found asked) IsFitting
fits_unless None asked fits = fits
fits_unless (Some it) asked fits = tt

fits_operation : (members : Members) (found : Option Op) → IfOk (read_operation members found) IsFitting
fits_operation object None = tt
fits_operation members (Some op) =
    fits_unless (first_fault (fault_lines (operation op).fields members)) (command_in op members) (fits_command op members)

fits_object : (found : Option Members) → IfOk (read_object found) IsFitting
fits_object None = tt
fits_object (Some members) = fits_operation members (op_in members)

fits_value : (found : Option Data) → IfOk (read_value found) IsFitting
fits_value None = tt
fits_value (Some value) = fits_object (as_object value)

unless_long : (test : Bool) (read : Result Command TraceFault) → IfOk read IsFitting → IfOk (cond test (Err fault.LineTooLong) read) IsFitting
unless_long true read fits = tt
unless_long false read fits = fits

pub fits-read_command : (line : List ℕ) → IfOk (read_command line) IsFitting
unfolding read_command
fits-read_command line = unless_long (nat_lt LINE_BYTES (length line)) (read_value (json_of line)) (fits_value (json_of line))
