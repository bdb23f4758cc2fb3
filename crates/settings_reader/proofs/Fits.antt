-- What settings are read is within their limits.
use Rattle.std.proofs.Common.{◌≡◌, ℕ, ◌+◌, ◌≤◌, ℤ, pos, negsuc, Bool, true, false, cond, List, [], ◌∷◌, length, Option, Some, None, Result}
use Rattle.std.proofs.Common.{Ok, Err, not, refl, arith, rules}
use Rattle.std.specs.Str.{bytes_eq}
use Rattle.std.specs.Prelude.{IfOk, nat_lt, int_le, codes, ◌&&◌, ok_or}
use Rattle.std.specs.Option.{option_map_or}
use Rattle.std.specs.List.{All, AllByRecursion}
use Rattle.std.proofs.lemmas.Bool.Decides.{nat_tests}
use Rattle.std.proofs.lemmas.List.Elements.{All-from_recursion}
use Rattle.toml.specs.Data.{Data, Items, no_items, item, Members, get_member, as_integer, as_array, as_table}
use Rattle.edit_base.specs.declared.bounds.TheConstants.Limits.{TEXT, WATCHERS, FILTERS, DEPTH, DEPTH_DEFAULT, RANGES, WIDTH}
use Rattle.trace_model.specs.declared.faults.SettingsFault.{SettingsFault}
use Rattle.trace_model.specs.declared.faults.SettingsFault.TheVariants as fault
use Rattle.edit_model.specs.declared.filters.Filter.{Filter}
use Rattle.edit_model.specs.declared.filters.Filter.TheVariants.{AsciiUpper, NoNewline}
use Rattle.edit_model.specs.declared.filters.UnitRange.{UnitRange}
use Rattle.trace_model.specs.declared.settings.WatcherSetting.{WatcherSetting}
use Rattle.edit_model.specs.State.{place}
use Rattle.settings_reader.specs.declared.settings.Settings.{Settings}
use Rattle.settings_reader.specs.Seen.{as_settings}
use Rattle.trace_model.specs.Faults.{GivesSeen}
use Rattle.trace_model.specs.Settings.{FitsFilter, FitsLimits, having, each_of, within, number_of, item_count, few_items, array_of, range_of}
use Rattle.trace_model.specs.Settings.{ranges_of, text_of, value_at, only, has_foreign, length_filter, allow_filter, filter_by_kind}
use Rattle.trace_model.specs.Settings.{filter_of, are_tables, tables_of, filter_in, filters_of, width_default, settings_of, known_keys}
use Rattle.trace_model.specs.Settings.{numbers_most, greatest_number, FitsWatcher, kind_named, numbers_of, watcher_of_kind, watcher_by_kind}
use Rattle.trace_model.specs.Settings.{watcher_of, watcher_in, watchers_of}

module _ {X Y : Type 0} (P : Y → Type 0) where
  -- what was read first is of this kind, and so what is read of it is of that kind
  behind_kind : (Q : X → Type 0) (found : Result X SettingsFault) (next : X → Result Y SettingsFault) → IfOk found Q
      → ((x : X) → Q x → IfOk (next x) P) → IfOk (having found next) P
  behind_kind Q (Ok x) next is each = each x is
  behind_kind Q (Err it) next is each = tt

  behind_any : (found : Result X SettingsFault) (next : X → Result Y SettingsFault) → ((x : X) → IfOk (next x) P) → IfOk (having found next) P
  behind_any (Ok x) next each = each x
  behind_any (Err it) next each = tt

module _ {X : Type 0} (P : X → Type 0) where
  weaken : (Q : X → Type 0) (found : Result X SettingsFault) → IfOk found Q → ((x : X) → Q x → P x) → IfOk found P
  weaken Q (Ok x) is each = each x is
  weaken Q (Err it) is each = tt

  either : (test : Bool) (one other : Result X SettingsFault) → (test ≡ true → IfOk one P) → (test ≡ false → IfOk other P) → IfOk (cond test one other) P
  either true one other is is_other = is refl
  either false one other is is_other = is_other refl

  at_key_or : (silent : X) (read : Data → Result X SettingsFault) (found : Option Data) → P silent → ((value : Data) → IfOk (read value) P)
      → IfOk (option_map_or read found (Ok silent)) P
  at_key_or silent read None is each = is
  at_key_or silent read (Some value) is each = each value

-- ---- numbers and arrays

-- a number from the one to the other
record Lies (low high number : ℕ) : Type 0 where
  pub least : low ≤ number
  pub greatest : number ≤ high

lies : (low high : ℕ) (z : ℤ) → int_le (pos low) z && int_le z (pos high) ≡ true → Lies low high (place z)
lies low high (pos n) is = record { least = grind (arith, nat_tests); greatest = grind (arith, nat_tests) }
lies low high (negsuc n) is = absurd cc

number_lies : (low high : ℕ) (value : Data) → IfOk (number_of low high value) (Lies low high)
number_lies low high value =
    behind_any (Lies low high) (ok_or (as_integer value) fault.Value) (within low high) (λ z.
    either (Lies low high) (int_le (pos low) z && int_le z (pos high)) (Ok (place z)) (Err fault.Limit) (lies low high z) (λ no. tt))

-- so many, each of this kind
record AreMany {X : Type 0} (P : X → Type 0) (count : ℕ) (xs : List X) : Type 0 where
  pub long : length xs ≡ count
  pub each : AllByRecursion P xs

module _ {X : Type 0} (P : X → Type 0) (read : Data → Result X SettingsFault) (is : (value : Data) → IfOk (read value) P) where
  each_many : (items : Items) → IfOk (each_of read items) (AreMany P (item_count items))
  each_many no_items = record { long = refl; each = tt }
  each_many (item value items) =
      behind_kind (AreMany P (item_count items + 1)) P (read value) _ (is value) (λ x here.
      behind_kind (AreMany P (item_count items + 1)) (AreMany P (item_count items)) (each_of read items) _ (each_many items) (λ xs there.
      record { long = omega (arith, there.long); each = (here, there.each) }))

-- at most so many
abbrev AreFew : ℕ → Items → Type 0
AreFew greatest items = item_count items ≤ greatest

few_kept : (greatest : ℕ) (items : Items) → IfOk (few_items greatest items) (AreFew greatest)
few_kept greatest items =
    either (AreFew greatest) (nat_lt greatest (item_count items)) (Err fault.Limit) (Ok items) (λ many. tt) (λ few. grind (arith, nat_tests))

-- ---- filters

abbrev IsAny : {X : Type 0} → X → Type 0
IsAny x = Unit

any_range : (found : Result UnitRange SettingsFault) → IfOk found IsAny
any_range (Ok range) = tt
any_range (Err it) = tt

abbrev FewRanges : List UnitRange → Type 0
FewRanges ranges = length ranges ≤ RANGES

ranges_few : (value : Data) → IfOk (ranges_of value) FewRanges
ranges_few value =
    behind_kind FewRanges (AreFew RANGES) (array_of RANGES value) (each_of range_of)
    (behind_any (AreFew RANGES) (ok_or (as_array value) fault.Value) (few_items RANGES) (few_kept RANGES)) (λ items few.
    weaken FewRanges (AreMany IsAny (item_count items)) (each_of range_of items)
    (each_many IsAny range_of (λ pair. any_range (range_of pair)) items) (λ ranges many.
    omega (arith, many.long)))

fits_only : {X : Type 0} (P : X → Type 0) (names : List (List ℕ)) (table : Members) (read : Result X SettingsFault) → IfOk read P
    → IfOk (only names table read) P
fits_only P names table read is = either P (has_foreign names table) (Err fault.Key) read (λ foreign. tt) (λ known. is)

length_fits : (table : Members) → IfOk (length_filter table) FitsFilter
length_fits table =
    behind_any FitsFilter (value_at (codes "max") table) _ (λ value.
    behind_kind FitsFilter (Lies 0 TEXT) (number_of 0 TEXT value) _ (number_lies 0 TEXT value) (λ greatest lies. lies.greatest))

allow_fits : (table : Members) → IfOk (allow_filter table) FitsFilter
allow_fits table =
    behind_any FitsFilter (value_at (codes "ranges") table) _ (λ value.
    behind_kind FitsFilter FewRanges (ranges_of value) _ (ranges_few value) (λ ranges few. few))

fits_by_kind : (table : Members) (kind : List ℕ) → IfOk (filter_by_kind table kind) FitsFilter
fits_by_kind table kind =
    let with_max = codes "kind" ∷ codes "max" ∷ [] in
    let with_ranges = codes "kind" ∷ codes "ranges" ∷ [] in
    let alone = codes "kind" ∷ [] in
    either FitsFilter (bytes_eq kind (codes "length")) _ _ (λ is. fits_only FitsFilter with_max table _ (length_fits table)) (λ other.
    either FitsFilter (bytes_eq kind (codes "upper")) _ _ (λ is. fits_only FitsFilter alone table (Ok AsciiUpper) tt) (λ other.
    either FitsFilter (bytes_eq kind (codes "allow")) _ _ (λ is. fits_only FitsFilter with_ranges table _ (allow_fits table)) (λ other.
    either FitsFilter (bytes_eq kind (codes "no-newline")) _ _ (λ is. fits_only FitsFilter alone table (Ok NoNewline) tt) (λ other. tt))))

filter_fits : (value : Data) → IfOk (filter_in value) FitsFilter
filter_fits value =
    behind_any FitsFilter (ok_or (as_table value) fault.Value) filter_of (λ table.
    behind_any FitsFilter (value_at (codes "kind") table) _ (λ named.
    behind_any FitsFilter (text_of named) (filter_by_kind table) (fits_by_kind table)))

-- few tables, each of them read as what fits
few_tables : (greatest : ℕ) (value : Data) → IfOk (tables_of greatest value) (AreFew greatest)
few_tables greatest value =
    behind_any (AreFew greatest) (ok_or (as_array value) fault.Value) _ (λ items.
    either (AreFew greatest) (not (are_tables items)) (Err fault.Value) (few_items greatest items) (λ others. tt)
    (λ tables. few_kept greatest items))

-- few filters, each within its limits
record AreFitting (filters : List Filter) : Type 0 where
  pub few : length filters ≤ FILTERS
  pub each : All FitsFilter filters

filters_fit : (value : Data) → IfOk (filters_of value) AreFitting
filters_fit value =
    behind_kind AreFitting (AreFew FILTERS) (tables_of FILTERS value) (each_of filter_in) (few_tables FILTERS value) (λ items few.
    weaken AreFitting (AreMany FitsFilter (item_count items)) (each_of filter_in items)
    (each_many FitsFilter filter_in filter_fits items) (λ filters many.
    record { few = omega (arith, many.long); each = All-from_recursion FitsFilter filters many.each }))

-- ---- watchers

-- so few numbers as a watcher may be loaded with
abbrev FewNumbers : List ℕ → Type 0
FewNumbers numbers = length numbers ≤ numbers_most

any_number : (found : Result ℕ SettingsFault) → IfOk found IsAny
any_number (Ok number) = tt
any_number (Err it) = tt

numbers_few : (value : Data) → IfOk (numbers_of value) FewNumbers
numbers_few value =
    let read = number_of 0 greatest_number in
    behind_kind FewNumbers (AreFew numbers_most) (array_of numbers_most value) (each_of read)
    (behind_any (AreFew numbers_most) (ok_or (as_array value) fault.Value) (few_items numbers_most) (few_kept numbers_most)) (λ items few.
    weaken FewNumbers (AreMany IsAny (item_count items)) (each_of read items) (each_many IsAny read (λ number. any_number (read number)) items) (λ numbers many.
    omega (arith, many.long)))

watcher_of_kind_fits : (table : Members) (kind : ℕ) → IfOk (watcher_of_kind table kind) FitsWatcher
watcher_of_kind_fits table kind =
    behind_any FitsWatcher (value_at (codes "numbers") table) _ (λ value.
    behind_kind FitsWatcher FewNumbers (numbers_of value) _ (numbers_few value) (λ numbers few. few))

watcher_fits : (value : Data) → IfOk (watcher_in value) FitsWatcher
watcher_fits value =
    behind_any FitsWatcher (ok_or (as_table value) fault.Value) watcher_of (λ table.
    behind_any FitsWatcher (value_at (codes "kind") table) _ (λ named.
    behind_any FitsWatcher (text_of named) _ (λ name.
    behind_any FitsWatcher (kind_named name) (watcher_by_kind table) (λ kind.
    fits_only FitsWatcher (codes "kind" ∷ codes "numbers" ∷ []) table _ (watcher_of_kind_fits table kind)))))

-- few watchers, each with few numbers
record AreAskedFor (watchers : List WatcherSetting) : Type 0 where
  pub few : length watchers ≤ WATCHERS
  pub each : All FitsWatcher watchers

watchers_fit : (value : Data) → IfOk (watchers_of value) AreAskedFor
watchers_fit value =
    behind_kind AreAskedFor (AreFew WATCHERS) (tables_of WATCHERS value) (each_of watcher_in) (few_tables WATCHERS value) (λ items few.
    weaken AreAskedFor (AreMany FitsWatcher (item_count items)) (each_of watcher_in items)
    (each_many FitsWatcher watcher_in watcher_fits items) (λ watchers many.
    record { few = omega (arith, many.long); each = All-from_recursion FitsWatcher watchers many.each }))

-- ---- the document

settings_fit : (table : Members) → IfOk (settings_of table) FitsLimits
settings_fit table =
    fits_only FitsLimits known_keys table _ (
    behind_kind FitsLimits (Lies 0 DEPTH) _ _
    (at_key_or (Lies 0 DEPTH) DEPTH_DEFAULT (number_of 0 DEPTH) (get_member (codes "depth") table)
    (record { least = omega arith; greatest = omega arith }) (number_lies 0 DEPTH)) (λ depth deep.
    behind_kind FitsLimits (Lies 1 WIDTH) _ _
    (at_key_or (Lies 1 WIDTH) width_default (number_of 1 WIDTH) (get_member (codes "width") table)
    (record { least = omega arith; greatest = omega arith }) (number_lies 1 WIDTH)) (λ width wide.
    behind_kind FitsLimits AreFitting _ _
    (at_key_or AreFitting [] filters_of (get_member (codes "filter") table) (record { few = omega arith; each = search rules }) filters_fit) (λ filters fit.
    behind_kind FitsLimits AreAskedFor _ _
    (at_key_or AreAskedFor [] watchers_of (get_member (codes "watcher") table) (record { few = omega arith; each = search rules }) watchers_fit)
    (λ watchers asked.
    record {
      depth = deep.greatest;
      width_least = wide.least;
      width = wide.greatest;
      filters = fit.few;
      each_filter = fit.each;
      watchers = asked.few;
      each_watcher = asked.each;
    }
    )))))

pub given_fits : (table : Members) (result : Result Settings SettingsFault) → GivesSeen fault.NoMemory as_settings (settings_of table) result
    → IfOk result (λ settings. FitsLimits (as_settings settings))
given_fits table (Err it) gives = tt
given_fits table (Ok settings) gives = rw gives.0 at (settings_fit table)
