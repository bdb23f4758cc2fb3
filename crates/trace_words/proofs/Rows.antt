-- The rows that the program holds beside those of the definition.
use Rattle.std.proofs.Common.{◌≡◌, ◌||◌, Bool, not, List, [], ◌∷◌, map, ℕ, refl, sym, ap, ◌∙◌, String, Global, string_bytes}
use Rattle.std.specs.Prelude.{codes}
use Rattle.std.proofs.lemmas.Option.{slice_get-map}
use Rattle.std.specs.List.{list_any}
use Rattle.std.specs.Str.{bytes_eq}
use Rattle.serde_json.specs.Data.{Members}
use Rattle.serde_json.specs.View.{members_view}
use Rattle.serde_json.specs.declared.value.Value.{Value}
use Rattle.trace_model.specs.Operations.{Field}
use Rattle.trace_model.specs.Reading.{is_known, has_foreign, is_missing}
use Rattle.edit_model.proofs.Tests.{list_any-map}
use Rattle.trace_words.specs.declared.table.OpField.{OpField}
use Rattle.trace_words.specs.Table.{NamedField, named_field, shown_field, is_foreign, is_absent}

-- some fields are those of a row, by names and by whether they have to stand
abbrev AreFields : List OpField → List Field → Type 0
AreFields fields row = map shown_field fields ≡ map named_field row

-- a test by names alone finds the same in both
both_find : (p : NamedField → Bool) (fields : List OpField) (row : List Field) → AreFields fields row
    → list_any (λ field. p (shown_field field)) fields ≡ list_any (λ field. p (named_field field)) row
both_find p fields row same = sym (list_any-map shown_field p fields) ∙ ap (list_any p) same ∙ list_any-map named_field p row

pub list_any-missing : (members : Members) (fields : List OpField) (row : List Field) → AreFields fields row
    → list_any (λ field. is_absent members (shown_field field)) fields ≡ list_any (is_missing members) row
list_any-missing members fields row same = both_find (is_absent members) fields row same

foreign-is : (key : List ℕ) (fields : List OpField) (row : List Field) → AreFields fields row → is_foreign fields key ≡ not (is_known row key)
foreign-is key fields row same =
    ap (λ found. not (bytes_eq key (codes "op") || found)) (both_find (λ field. bytes_eq key field.name) fields row same)

-- a member that is foreign among the keys of a map
pub list_any-foreign : (entries : List (String Global × Value)) (fields : List OpField) (row : List Field) → AreFields fields row
    → list_any (λ key. is_foreign fields (string_bytes key)) (map (λ it. it.0) entries) ≡ has_foreign row (members_view entries)
list_any-foreign [] fields row same = refl
list_any-foreign (first ∷ entries) fields row same =
    ap (λ b. b || list_any (λ key. is_foreign fields (string_bytes key)) (map (λ it. it.0) entries)) (foreign-is (string_bytes first.0) fields row same)
    ∙ ap (λ b. not (is_known row (string_bytes first.0)) || b) (list_any-foreign entries fields row same)

pub ruleset fields = (slice_get-map)
