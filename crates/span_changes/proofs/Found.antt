-- One row more of those that are found to pass a test.
use Rattle.std.proofs.Common.{◌≡◌, ℕ, ◌+◌, ◌<◌, ◌++◌, Bool, true, false, cond, List, [], ◌∷◌, map, length, take, sym, ap, ◌∙◌}
use Rattle.std.specs.List.{filter}
use Rattle.std.proofs.lemmas.List.{append-nil, map-append}
use Rattle.std.proofs.lemmas.List.Elements.{filter_more}
use Rattle.edit_base.specs.declared.rows.SpanRow.{SpanRow}
use Rattle.edit_model.specs.State.{Span}
use Rattle.edit_model.specs.Rows.{span_of, spans_in}
use Rattle.interval_tree.specs.Answers.{orders_of}
use Rattle.moved_rows.proofs.Places.{passing_more, passing_to}
use Rattle.span_table.specs.Table.{no_span, span_at}

map_push : {X Y : Type 0} (f : X → Y) (passes : Bool) (xs : List X) (x : X) → map f (cond passes (xs ++ x ∷ []) xs) ≡ map f xs ++ cond passes (f x ∷ []) []
map_push f true xs x = map-append f xs (x ∷ [])
map_push f false xs x = sym (append-nil (map f xs))

module _ (test : Span → Bool) (spans : List Span) (i : ℕ) (below : i < length spans) (found new : List SpanRow) (row : SpanRow)
    (read : span_of row ≡ span_at spans i) (is : new ≡ cond (test (span_of row)) (found ++ row ∷ []) found) where
  pub found_spans : spans_in found ≡ filter test (take i spans) → spans_in new ≡ filter test (take (i + 1) spans)
  found_spans so_far =
      ap spans_in is ∙ map_push span_of (test (span_of row)) found row
      ∙ ap (λ before. before ++ cond (test (span_of row)) (span_of row ∷ []) []) so_far
      ∙ ap (λ span. filter test (take i spans) ++ cond (test span) (span ∷ []) []) read
      ∙ sym (filter_more test spans i no_span below)

  pub found_orders : row.order ≡ i → orders_of found ≡ passing_to test spans i → orders_of new ≡ passing_to test spans (i + 1)
  found_orders order so_far =
      ap orders_of is ∙ map_push (λ (one : SpanRow). one.order) (test (span_of row)) found row
      ∙ ap (λ before. before ++ cond (test (span_of row)) (row.order ∷ []) []) so_far
      ∙ ap (λ span. passing_to test spans i ++ cond (test span) (row.order ∷ []) []) read
      ∙ ap (λ at. passing_to test spans i ++ cond (test (span_at spans i)) (at ∷ []) []) order
      ∙ sym (passing_more test spans i)
