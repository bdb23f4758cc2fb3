-- An array says as many spans as it has values, so that their number can be judged before any is read.
use Rattle.std.proofs.Common.{suc, ◌≡◌, ◌<◌, ◌≤◌, leb, List, [], ◌∷◌, length, Option, Some, None, refl, sym, ap, ◌∙◌, arith}
use Rattle.std.specs.Prelude.{IfSome}
use Rattle.std.specs.Option.{option_map, option_and_then}
use Rattle.std.proofs.lemmas.Bool.{cond-true, cond-false}
use Rattle.std.proofs.lemmas.Bool.Decides.{nat_tests}
use Rattle.serde_json.specs.Data.{Data}
use Rattle.serde_json.specs.Find.{as_str, as_array}
use Rattle.serde_json.specs.View.{view, items_view}
use Rattle.serde_json.specs.declared.value.Value.{Value}
use Rattle.edit_base.specs.declared.bounds.TheConstants.Limits.{LINE_SPANS}
use Rattle.edit_base.specs.declared.rows.NewSpan.{NewSpan}
use Rattle.trace_model.specs.Words.{as_span}
use Rattle.trace_model.specs.Reading.{spans_said, as_few, spans_of}

abbrev IsOneEach : List Value → List NewSpan → Type 0
IsOneEach values brought = length brought ≡ length values

one_more : (value : Value) (values : List Value) (first : Option NewSpan) (others : Option (List NewSpan)) → IfSome others (IsOneEach values)
    → IfSome (option_and_then (λ span. option_map (λ rest. span ∷ rest) others) first) (IsOneEach (value ∷ values))
one_more value values None others each = tt
one_more value values (Some span) None each = tt
one_more value values (Some span) (Some rest) each = ap suc each

-- values say one span each, or nothing
one_each : (values : List Value) → IfSome (spans_said (items_view values)) (IsOneEach values)
one_each [] = refl
one_each (value ∷ values) =
    one_more value values (option_and_then as_span (as_str (view value))) (spans_said (items_view values)) (one_each values)

few : (values : List Value) (said : Option (List NewSpan)) → IfSome said (IsOneEach values) → length values ≤ LINE_SPANS → option_and_then as_few said ≡ said
few values None each within = refl
few values (Some brought) each within = cond-true (leb (length brought) LINE_SPANS) (Some brought) None (grind (arith, nat_tests))

many : (values : List Value) (said : Option (List NewSpan)) → IfSome said (IsOneEach values) → LINE_SPANS < length values → option_and_then as_few said ≡ None
many values None each over = refl
many values (Some brought) each over = cond-false (leb (length brought) LINE_SPANS) (Some brought) None (grind (arith, nat_tests))

pub spans_of-few : (value : Data) (values : List Value) → Some (items_view values) ≡ as_array value → length values ≤ LINE_SPANS
    → spans_of value ≡ spans_said (items_view values)
spans_of-few value values is within =
    ap (λ found. option_and_then as_few (option_and_then spans_said found)) (sym is) ∙ few values (spans_said (items_view values)) (one_each values) within

pub spans_of-many : (value : Data) (values : List Value) → Some (items_view values) ≡ as_array value → LINE_SPANS < length values → spans_of value ≡ None
spans_of-many value values is over =
    ap (λ found. option_and_then as_few (option_and_then spans_said found)) (sym is) ∙ many values (spans_said (items_view values)) (one_each values) over

pub ruleset counted = (spans_of-few, spans_of-many)
