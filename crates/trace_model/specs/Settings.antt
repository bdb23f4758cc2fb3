-- What a settings file sets, or its first fault, by the table that `toml` promises for its bytes.
use Rattle.std.specs.Prelude.{ℕ, ◌+◌, ◌≤◌, ◌&&◌, ℤ, pos, Bool, true, not, List, [], ◌∷◌, length, nat_lt, int_le, codes, if◌then◌else◌}
use Rattle.std.specs.Prelude.{Option, None, Some, is_some, Result, Ok, Err, ok_or}
use Rattle.std.specs.Option.{option_map_or}
use Rattle.std.specs.List.{All, list_any}
use Rattle.std.specs.Str.{is_utf8, bytes_eq}
use Rattle.toml.specs.Data.{Data, Items, no_items, item, Members, no_members, member, get_member, as_integer, as_str, as_array, as_table}
use Rattle.toml.specs.Parse.{parse_document}
use Rattle.edit_base.specs.declared.bounds.TheConstants.Limits.{TEXT, WATCHERS, FILTERS, DEPTH, DEPTH_DEFAULT, SETTINGS_BYTES, RANGES, WIDTH}
use Rattle.trace_model.specs.declared.faults.SettingsFault.{SettingsFault}
use Rattle.trace_model.specs.declared.faults.SettingsFault.TheVariants as fault
use Rattle.edit_model.specs.declared.filters.Filter.{Filter}
use Rattle.edit_model.specs.declared.filters.Filter.TheVariants.{Length, AsciiUpper, Allow, NoNewline}
use Rattle.edit_model.specs.declared.filters.UnitRange.{UnitRange}
use Rattle.trace_model.specs.declared.settings.WatcherSetting.{WatcherSetting}
use Rattle.trace_model.specs.Faults.{and_then, unless}
use Rattle.edit_model.specs.State.{place}

-- what a run is set to; a text goes through the filters in their order, and the watchers are loaded in theirs
pub record Settings : Type 0 where
  pub depth : ℕ
  pub width : ℕ
  pub filters : List Filter
  pub watchers : List WatcherSetting

-- the numbers of a filter are within their limits
abbrev pub FitsFilter : Filter → Type 0
FitsFilter (Length greatest) = greatest ≤ TEXT
FitsFilter AsciiUpper = Unit
FitsFilter (Allow ranges) = length ranges ≤ RANGES
FitsFilter NoNewline = Unit

-- how many numbers a watcher may be loaded with
abbrev pub numbers_most : ℕ
numbers_most = 8

-- a watcher is asked for with no more numbers than it may be
abbrev pub FitsWatcher : WatcherSetting → Type 0
FitsWatcher watcher = length watcher.numbers ≤ numbers_most

-- what all settings fit, whether they were read or are built in
pub record FitsLimits (settings : Settings) : Type 0 where
  pub depth : settings.depth ≤ DEPTH
  pub width_least : 1 ≤ settings.width
  pub width : settings.width ≤ WIDTH
  pub filters : length settings.filters ≤ FILTERS
  pub each_filter : All FitsFilter settings.filters
  pub watchers : length settings.watchers ≤ WATCHERS
  pub each_watcher : All FitsWatcher settings.watchers

-- the table of a file's bytes, where `toml` reads one
abbrev pub toml_of : List ℕ → Option Members
toml_of bytes = if is_utf8 bytes then parse_document bytes else None

-- the keys of a table, in its order
abbrev pub keys_of : Members → List (List ℕ)
keys_of no_members = []
keys_of (member key value members) = key ∷ keys_of members

-- the width where the settings are silent
abbrev pub width_default : ℕ
width_default = 400

-- the greatest UTF-16 unit
abbrev pub greatest_unit : ℕ
greatest_unit = 65535

-- the greatest number that a watcher may be loaded with
abbrev pub greatest_number : ℕ
greatest_number = 4294967295

-- the settings of a file that says nothing
abbrev pub built_in : Settings
built_in = record { depth = DEPTH_DEFAULT; width = width_default; filters = []; watchers = [] }

-- ---- first faults

-- what was read first, and a reading of it: as `and_then`, in the order in which it is read
abbrev pub having : {X Y : Type 0} → Result X SettingsFault → (X → Result Y SettingsFault) → Result Y SettingsFault
having found next = and_then next found

-- what the values of an array say, one after the other, or the first fault of them
abbrev pub each_of : {X : Type 0} → (Data → Result X SettingsFault) → Items → Result (List X) SettingsFault
each_of read no_items = Ok []
each_of read (item value items) = having (read value) (λ first. having (each_of read items) (λ others. Ok (first ∷ others)))

-- ---- values

-- a whole number within limits
abbrev pub within : ℕ → ℕ → ℤ → Result ℕ SettingsFault
within least greatest z = if int_le (pos least) z && int_le z (pos greatest) then Ok (place z) else Err fault.Limit

-- a value that is a whole number within limits
abbrev pub number_of : ℕ → ℕ → Data → Result ℕ SettingsFault
number_of least greatest value = having (ok_or (as_integer value) fault.Value) (within least greatest)

-- the number of an array's values
abbrev pub item_count : Items → ℕ
item_count no_items = 0
item_count (item value items) = item_count items + 1

-- an array of at most so many values
abbrev pub few_items : ℕ → Items → Result Items SettingsFault
few_items greatest items = if nat_lt greatest (item_count items) then Err fault.Limit else Ok items

-- a value that is an array of at most so many values
abbrev pub array_of : ℕ → Data → Result Items SettingsFault
array_of greatest value = having (ok_or (as_array value) fault.Value) (few_items greatest)

-- the value at a key that has to stand
abbrev pub value_at : List ℕ → Members → Result Data SettingsFault
value_at key members = ok_or (get_member key members) fault.Key

-- a key that is none of these
abbrev pub has_foreign : List (List ℕ) → Members → Bool
has_foreign names members = list_any (λ key. not (list_any (λ name. bytes_eq name key) names)) (keys_of members)

-- ---- filters

-- two units, both counted
abbrev pub range_by_items : Items → Result UnitRange SettingsFault
range_by_items (item low (item high no_items)) =
    having (number_of 0 greatest_unit low) (λ low.
    having (number_of 0 greatest_unit high) (λ high.
    Ok (record { low = low; high = high })))
range_by_items _ = Err fault.Value

-- an array of two units
abbrev pub range_of : Data → Result UnitRange SettingsFault
range_of value = having (ok_or (as_array value) fault.Value) range_by_items

-- an array of at most so many values as a filter may have ranges, each of them two units
abbrev pub ranges_of : Data → Result (List UnitRange) SettingsFault
ranges_of value = having (array_of RANGES value) (each_of range_of)

-- a value that is a string
abbrev pub text_of : Data → Result (List ℕ) SettingsFault
text_of value = ok_or (as_str value) fault.Value

-- what is read of a table with these keys alone
abbrev pub only : {X : Type 0} → List (List ℕ) → Members → Result X SettingsFault → Result X SettingsFault
only names members read = unless (has_foreign names members) fault.Key read

-- the filter with the number at `max`
abbrev pub length_filter : Members → Result Filter SettingsFault
length_filter members = having (value_at (codes "max") members) (λ value. having (number_of 0 TEXT value) (λ greatest. Ok (Length greatest)))

-- the filter with the ranges at `ranges`
abbrev pub allow_filter : Members → Result Filter SettingsFault
allow_filter members = having (value_at (codes "ranges") members) (λ value. having (ranges_of value) (λ ranges. Ok (Allow ranges)))

-- the filter of a kind: no key that this kind doesn't have, and then its keys in order
abbrev pub filter_by_kind : Members → List ℕ → Result Filter SettingsFault
filter_by_kind members kind =
    if bytes_eq kind (codes "length") then only (codes "kind" ∷ codes "max" ∷ []) members (length_filter members)
    else (if bytes_eq kind (codes "upper") then only (codes "kind" ∷ []) members (Ok AsciiUpper)
    else (if bytes_eq kind (codes "allow") then only (codes "kind" ∷ codes "ranges" ∷ []) members (allow_filter members)
    else (if bytes_eq kind (codes "no-newline") then only (codes "kind" ∷ []) members (Ok NoNewline)
    else Err fault.Value)))

-- the filter that a table says, by its kind
abbrev pub filter_of : Members → Result Filter SettingsFault
filter_of members = having (value_at (codes "kind") members) (λ value. having (text_of value) (filter_by_kind members))

-- every value is a table
abbrev pub are_tables : Items → Bool
are_tables no_items = true
are_tables (item value items) = is_some (as_table value) && are_tables items

-- an array of tables, which are told from other values before they are counted
abbrev pub tables_of : ℕ → Data → Result Items SettingsFault
tables_of greatest value =
    having (ok_or (as_array value) fault.Value) (λ items. unless (not (are_tables items)) fault.Value (few_items greatest items))

-- a value that is a table, and the filter that it says
abbrev pub filter_in : Data → Result Filter SettingsFault
filter_in value = having (ok_or (as_table value) fault.Value) filter_of

-- few tables, each of them a filter
abbrev pub filters_of : Data → Result (List Filter) SettingsFault
filters_of value = having (tables_of FILTERS value) (each_of filter_in)

-- ---- watchers

-- the kinds of watchers that there are, by their names
abbrev pub watcher_kinds : List (List ℕ × ℕ)
watcher_kinds =
    (codes "note", 0)
    ∷ (codes "pair", 1)
    ∷ (codes "swap", 2)
    ∷ (codes "limit", 3)
    ∷ (codes "squeeze", 4)
    ∷ (codes "paint", 5)
    ∷ (codes "follow", 6)
    ∷ (codes "echo", 7)
    ∷ []

-- the number of the first row with this name
abbrev pub kind_in : List (List ℕ × ℕ) → List ℕ → Option ℕ
kind_in [] name = None
kind_in (row ∷ rows) name = if bytes_eq name row.0 then Some row.1 else kind_in rows name

-- a name that is a kind's
abbrev pub kind_named : List ℕ → Result ℕ SettingsFault
kind_named name = ok_or (kind_in watcher_kinds name) fault.Value

-- an array of at most so many numbers as a watcher may be loaded with
abbrev pub numbers_of : Data → Result (List ℕ) SettingsFault
numbers_of value = having (array_of numbers_most value) (each_of (number_of 0 greatest_number))

-- the watcher of a kind with the numbers at `numbers`
abbrev pub watcher_of_kind : Members → ℕ → Result WatcherSetting SettingsFault
watcher_of_kind members kind =
    having (value_at (codes "numbers") members) (λ value. having (numbers_of value) (λ numbers. Ok (record { kind = kind; numbers = numbers })))

-- the watcher of a kind: no key but these, and then its numbers
abbrev pub watcher_by_kind : Members → ℕ → Result WatcherSetting SettingsFault
watcher_by_kind members kind = only (codes "kind" ∷ codes "numbers" ∷ []) members (watcher_of_kind members kind)

-- the watcher that a table says, by its kind
abbrev pub watcher_of : Members → Result WatcherSetting SettingsFault
watcher_of members =
    having (value_at (codes "kind") members) (λ value. having (text_of value) (λ name. having (kind_named name) (watcher_by_kind members)))

-- a value that is a table, and the watcher that it says
abbrev pub watcher_in : Data → Result WatcherSetting SettingsFault
watcher_in value = having (ok_or (as_table value) fault.Value) watcher_of

-- few tables, each of them a watcher
abbrev pub watchers_of : Data → Result (List WatcherSetting) SettingsFault
watchers_of value = having (tables_of WATCHERS value) (each_of watcher_in)

-- ---- the document

-- what the value at a key says, or something else where the key is absent
abbrev pub at_key : {X : Type 0} → List ℕ → X → (Data → Result X SettingsFault) → Members → Result X SettingsFault
at_key key silent read members = option_map_or read (get_member key members) (Ok silent)

-- the keys that settings have
abbrev pub known_keys : List (List ℕ)
known_keys = codes "depth" ∷ codes "width" ∷ codes "filter" ∷ codes "watcher" ∷ []

-- no key that settings don't have, and then depth, width, the filters and the watchers
abbrev pub settings_of : Members → Result Settings SettingsFault
settings_of members = only known_keys members (
    having (at_key (codes "depth") DEPTH_DEFAULT (number_of 0 DEPTH) members) (λ depth.
    having (at_key (codes "width") width_default (number_of 1 WIDTH) members) (λ width.
    having (at_key (codes "filter") [] filters_of members) (λ filters.
    having (at_key (codes "watcher") [] watchers_of members) (λ watchers.
    Ok (record { depth = depth; width = width; filters = filters; watchers = watchers }))))))

-- the settings of a table, where `toml` read one
abbrev pub read_document : Option Members → Result Settings SettingsFault
read_document found = having (ok_or found fault.Toml) settings_of

-- the settings of a file, or the first fault of the walk
unfoldable pub read_settings : List ℕ → Result Settings SettingsFault
read_settings bytes = unless (nat_lt SETTINGS_BYTES (length bytes)) fault.Limit (read_document (toml_of bytes))
