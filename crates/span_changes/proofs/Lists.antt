-- Lists of rows, and the spans that they stand for.
use Rattle.std.proofs.Common.{◌≡◌, ◌||◌, Bool, true, false, cond, ltb, List, [], ◌∷◌, refl, length, arith}
use Rattle.std.specs.List.{AllByRecursion, filter, list_any}
use Rattle.std.proofs.lemmas.Bool.Decides.{nat_tests}
use Rattle.std.proofs.lemmas.List.{length-map}
use Rattle.span_table.specs.Table.{Rows, seen, spans_of}
use Rattle.std.specs.Prelude.{IsOk, OnErr, OnOk, Result, Ok, Err}
use Rattle.std.proofs.lemmas.Bool.{false≢true}

-- some element passes a test exactly where their count isn't 0
module _ {X : Type 0} (p : X → Bool) where
  some_more : (passes : Bool) (x : X) (kept : List X) (rest : Bool) → ltb 0 (length kept) ≡ rest
      → ltb 0 (length (cond passes (x ∷ kept) kept)) ≡ (passes || rest)
  some_more true x kept rest is = grind (arith, nat_tests)
  some_more false x kept rest is = is

  pub any_counted : (xs : List X) → ltb 0 (length (filter p xs)) ≡ list_any p xs
  any_counted [] = refl
  any_counted (x ∷ xs) = some_more (p x) x (filter p xs) (list_any p xs) (any_counted xs)

-- tests that agree on all elements keep the same
pub filter_alike : {X : Type 0} (p q : X → Bool) (xs : List X) → AllByRecursion (λ x. p x ≡ q x) xs → filter p xs ≡ filter q xs
filter_alike p q [] each = refl
filter_alike p q (x ∷ xs) each = rw (each.0, filter_alike p q xs each.1) refl

-- rows with one gap are seen as one
pub same_seen : (rows others : Rows) → rows.kept ≡ others.kept → rows.gap ≡ others.gap → rows.room ≡ others.room → spans_of rows ≡ spans_of others
same_seen rows others kept gap room = rw (kept, gap, room) refl

pub length-spans_of : (rows : Rows) → length (spans_of rows) ≡ length rows.kept
length-spans_of rows = length-map rows.kept (seen rows.gap rows.room)

-- what is so where a call succeeds is so where it does
pub on_ok : {T E : Type 0} {P : Type 0} (answer : Result T E) → IsOk answer → OnOk answer P → P
on_ok (Ok value) is on = on
on_ok (Err error) is on = absurd (false≢true is)

pub on_err : {T E : Type 0} {P : Type 0} (answer : Result T E) → P → OnErr answer P
on_err (Ok value) holds = tt
on_err (Err error) holds = holds

pub ruleset lengths = (length-map)
