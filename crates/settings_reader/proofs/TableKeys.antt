-- The keys of a table, as the map has them and as the definition has them.
use Rattle.std.proofs.Common.{ℕ, ◌≡◌, Bool, not, ◌||◌, List, [], ◌∷◌, map, String, Global, Bor, string_bytes, refl, sym, ap, ◌∙◌}
use Rattle.std.specs.List.{list_any}
use Rattle.std.specs.Map.{keys_of as keys_of_map}
use Rattle.std.specs.Str.{bytes_eq}
use Rattle.toml.specs.View.{members_view}
use Rattle.toml.specs.declared.value.Value.{Value}
use Rattle.trace_model.specs.Settings.{has_foreign}
use Rattle.edit_model.proofs.Tests.{list_any-map}

-- a key that is none of these names
abbrev pub is_other : List (Bor (List ℕ)) → List ℕ → Bool
is_other names key = not (list_any (λ name. bytes_eq name.now key) names)

pub has_foreign-entries : (names : List (Bor (List ℕ))) (entries : List (String Global × Value))
    → list_any (λ key. is_other names (string_bytes key)) (keys_of_map entries) ≡ has_foreign (map (λ name. name.now) names) (members_view entries)
has_foreign-entries names [] = refl
has_foreign-entries names (first ∷ entries) =
    ap (λ test. not test || list_any (λ key. is_other names (string_bytes key)) (keys_of_map entries))
    (sym (list_any-map (λ name. name.now) (λ name. bytes_eq name (string_bytes first.0)) names))
    ∙ ap (λ rest. not (list_any (λ name. bytes_eq name (string_bytes first.0)) (map (λ name. name.now) names)) || rest) (has_foreign-entries names entries)
