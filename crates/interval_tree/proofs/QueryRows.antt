-- Which rows are found among some places.
use Rattle.std.proofs.Common.{◌≡◌, ℕ, ◌≤◌, Bool, true, false, cond, List, [], ◌∷◌, ◌++◌, length, map, refl, sym, ap, ◌∙◌, arith}
use Rattle.std.specs.List.{filter}
use Rattle.std.proofs.lemmas.List.{append-nil, length-map}
use Rattle.std.proofs.lemmas.List.Elements.{filter-append}
use Rattle.std.proofs.lemmas.List.Sums.{count_by-le-length, length-filter}
use Rattle.edit_base.specs.declared.rows.SpanRow.{SpanRow}
use Rattle.edit_model.specs.State.{Span}
use Rattle.edit_model.specs.Rows.{span_of}
use Rattle.interval_tree.specs.declared.walk.Asked.{Asked}
use Rattle.span_table.specs.Table.{span_at}
use Rattle.interval_tree.specs.Walk.{answers, found, row_at}

pub filter_short : {X : Type 0} (test : X → Bool) (xs : List X) → length (filter test xs) ≤ length xs
filter_short test xs = omega (arith, length-filter test xs, count_by-le-length test xs)

found_one : (passes : Bool) (asked : Asked) (start end : ℕ) (spans : List Span) (i : ℕ) (rest : List ℕ)
    → answers asked start end (span_at spans i) ≡ passes
    → found asked start end spans (i ∷ rest) ≡ cond passes (row_at spans i ∷ []) [] ++ found asked start end spans rest
unfolding found
found_one true asked start end spans i rest is = rw is refl
found_one false asked start end spans i rest is = rw is refl

pub map_cat : {X Y : Type 0} (f : X → Y) (xs ys : List X) → map f (xs ++ ys) ≡ map f xs ++ map f ys
map_cat f [] ys = refl
map_cat f (x ∷ xs) ys = ap (λ rest. f x ∷ rest) (map_cat f xs ys)

pub found_append : (asked : Asked) (start end : ℕ) (spans : List Span) (before after : List ℕ)
    → found asked start end spans (before ++ after) ≡ found asked start end spans before ++ found asked start end spans after
unfolding found
found_append asked start end spans before after =
    ap (map (row_at spans)) (filter-append (λ i. answers asked start end (span_at spans i)) before after) ∙ map_cat (row_at spans) _ _

pub found_none : (asked : Asked) (start end : ℕ) (spans : List Span) → found asked start end spans [] ≡ []
unfolding found
found_none asked start end spans = refl

pub found_short : (asked : Asked) (start end : ℕ) (spans : List Span) (places : List ℕ) → length (found asked start end spans places) ≤ length places
unfolding found
found_short asked start end spans places =
    omega (
      arith,
      length-map (filter (λ i. answers asked start end (span_at spans i)) places) (row_at spans),
      filter_short (λ i. answers asked start end (span_at spans i)) places,
    )

pub row_is : (spans : List Span) (row : SpanRow) (i : ℕ) → span_of row ≡ span_at spans i → row.order ≡ i → row ≡ row_at spans i
row_is spans row i span order =
    ap (λ (one : Span). record { id = one.id; start = one.start; end = one.end; flags = one.flags; order = row.order; what = one.what }) span
    ∙ ap (λ at. record {
      id = (span_at spans i).id;
      start = (span_at spans i).start;
      end = (span_at spans i).end;
      flags = (span_at spans i).flags;
      order = at;
      what = (span_at spans i).what;
    }) order

-- a row that is read is found where it answers
pub found_row : (asked : Asked) (start end : ℕ) (spans : List Span) (row : SpanRow) (i : ℕ) → span_of row ≡ span_at spans i → row.order ≡ i
    → cond (answers asked start end (span_of row)) (row ∷ []) [] ≡ found asked start end spans (i ∷ [])
found_row asked start end spans row i span order =
    ap (λ (this : Span). cond (answers asked start end this) (row ∷ []) []) span
    ∙ ap (λ this. cond (answers asked start end (span_at spans i)) (this ∷ []) []) (row_is spans row i span order)
    ∙ sym (append-nil (cond (answers asked start end (span_at spans i)) (row_at spans i ∷ []) []))
    ∙ ap (λ rest. cond (answers asked start end (span_at spans i)) (row_at spans i ∷ []) [] ++ rest) (sym (found_none asked start end spans))
    ∙ sym (found_one _ asked start end spans i [] refl)
