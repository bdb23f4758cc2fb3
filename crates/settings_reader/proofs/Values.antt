-- The values of an array, as the vector has them and as the definition has them.
use Rattle.std.proofs.Common.{ℕ, ◌≡◌, ◌<◌, ◌≤◌, false, true, ◌&&◌, List, [], ◌∷◌, length, Ok, Err, is_some, refl, ap, arith}
use Rattle.std.specs.Prelude.{nat_lt}
use Rattle.std.specs.List.{list_all}
use Rattle.std.proofs.lemmas.Bool.{cond-true, cond-false}
use Rattle.std.proofs.lemmas.Bool.Decides.{nat_tests}
use Rattle.toml.specs.Data.{as_table}
use Rattle.toml.specs.View.{view, items_view}
use Rattle.toml.specs.declared.value.Value.{Value}
use Rattle.trace_model.specs.declared.faults.SettingsFault.TheVariants as fault
use Rattle.trace_model.specs.Settings.{item_count, few_items, are_tables}

item_count-view : (values : List Value) → item_count (items_view values) ≡ length values
item_count-view [] = refl
item_count-view (value ∷ values) = omega (arith, item_count-view values)

pub few_items-many : (greatest : ℕ) (values : List Value) → greatest < length values → few_items greatest (items_view values) ≡ Err fault.Limit
few_items-many greatest values many =
    let count = item_count-view values in
    let test : nat_lt greatest (item_count (items_view values)) ≡ true = grind (arith, nat_tests) in
    cond-true (nat_lt greatest (item_count (items_view values))) (Err fault.Limit) (Ok (items_view values)) test

pub few_items-few : (greatest : ℕ) (values : List Value) → length values ≤ greatest → few_items greatest (items_view values) ≡ Ok (items_view values)
few_items-few greatest values few =
    let count = item_count-view values in
    let test : nat_lt greatest (item_count (items_view values)) ≡ false = grind (arith, nat_tests) in
    cond-false (nat_lt greatest (item_count (items_view values))) (Err fault.Limit) (Ok (items_view values)) test

pub ruleset values = (few_items-many, few_items-few)

pub list_all-tables : (values : List Value) → list_all (λ value. is_some (as_table (view value))) values ≡ are_tables (items_view values)
list_all-tables [] = refl
list_all-tables (value ∷ values) = ap (λ rest. is_some (as_table (view value)) && rest) (list_all-tables values)
