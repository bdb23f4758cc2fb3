-- The ids of rows, when a row comes, goes or becomes another.
use Rattle.std.proofs.Common.{◌≡◌, ◌≢◌, ℕ, ◌<◌, ◌++◌, true, false, List, [], ◌∷◌, map, length, take, drop, get_or}
use Rattle.std.proofs.Common.{refl, sym, subst, ap, ◌∙◌, add-one, eq-eqb, arith}
use Rattle.std.specs.List.{IsDistinct, list_any, remove}
use Rattle.std.proofs.Math.ListN.{set}
use Rattle.std.proofs.Math.Seq.{map-set_same}
use Rattle.std.proofs.lemmas.Bool.Decides.{Decides-eqb}
use Rattle.std.proofs.lemmas.Grind.{get_or_default_zero}
use Rattle.std.proofs.lemmas.List.{drop-map, get_or-map, length-map, map-append, take-map}
use Rattle.std.proofs.lemmas.List.Folds.{list_any-from_Any}
use Rattle.std.proofs.lemmas.List.Quantifiers.{all_pairs_push, all_pairs_remove}
use Rattle.std.proofs.lemmas.Map.Made.{AllPairs-from_IsDistinct, IsDistinct-from_AllPairs}
use Rattle.edit_base.specs.declared.rows.SpanRow.{SpanRow}
use Rattle.edit_model.specs.State.{Span}
use Rattle.edit_model.specs.Attached.{has_id, is_attached}
use Rattle.edit_model.specs.Rows.{spans_in}
use Rattle.span_table.specs.declared.kept.KeptRow.{KeptRow}
use Rattle.span_table.specs.Table.{kept_span, no_row, no_span, seen, span_at, without_at}
use Rattle.interval_tree.specs.Ids.{HaveDistinctIds, ids_given, ids_of, same_number}

-- ---- ids, as a row comes or goes

pub distinct_more : (ids : List ℕ) (id : ℕ) → IsDistinct same_number ids → ((k : ℕ) → k < length ids → get_or ids k 0 ≢ id)
    → IsDistinct same_number (ids ++ id ∷ [])
distinct_more ids id apart other = IsDistinct-from_AllPairs {eq = same_number} Decides-eqb (ids ++ id ∷ [])
    (all_pairs_push (λ x y. x ≢ y) ids id (AllPairs-from_IsDistinct {eq = same_number} Decides-eqb ids apart)
    (λ k d within. subst (λ x. x ≢ id) (sym (get_or_default_zero ids k d within)) (other k within)))

pub distinct_without : (ids : List ℕ) (i : ℕ) → i < length ids → IsDistinct same_number ids → IsDistinct same_number (without_at i ids)
distinct_without ids i within apart = subst (IsDistinct same_number) (ap (λ k. take i ids ++ drop k ids) (sym (add-one i)))
    (IsDistinct-from_AllPairs {eq = same_number} Decides-eqb (remove ids i)
    (all_pairs_remove (λ x y. x ≢ y) ids i within (AllPairs-from_IsDistinct {eq = same_number} Decides-eqb ids apart)))

module _ (gap room : ℕ) (kept : List KeptRow) where
  -- a span that isn't attached has an id of its own
  other_ids : (id : ℕ) → is_attached id (map (seen gap room) kept) ≡ false → (k : ℕ) → k < length (ids_of kept) → get_or (ids_of kept) k 0 ≢ id
  other_ids id absent k within is =
      let inside : k < length kept = simp length-map at within in
      let span = seen gap room (get_or kept k no_row) in
      let found : list_any (has_id id) (map (seen gap room) kept) ≡ true = list_any-from_Any (has_id id) (map (seen gap room) kept) (
        k,
        span,
        simp length-map inside,
        get_or-map (seen gap room) kept k no_row span inside,
        eq-eqb _ _ (sym (get_or-map (λ row. row.id) kept k no_row 0 inside) ∙ is),
      ) in
      absurd (cc)

  pub ids_more : (span : Span) → is_attached span.id (map (seen gap room) kept) ≡ false → HaveDistinctIds kept
      → HaveDistinctIds (kept ++ kept_span gap room span ∷ [])
  ids_more span absent apart = subst (IsDistinct same_number) (sym (map-append (λ row. row.id) kept (kept_span gap room span ∷ [])))
      (distinct_more (ids_of kept) span.id apart (other_ids span.id absent))

pub without_ids : (kept : List KeptRow) (i : ℕ) → ids_of (without_at i kept) ≡ without_at i (ids_of kept)
without_ids kept i = rw (map-append, take-map, drop-map) refl

pub ids_without : (kept : List KeptRow) (i : ℕ) → i < length kept → HaveDistinctIds kept → HaveDistinctIds (without_at i kept)
ids_without kept i within apart =
    subst (IsDistinct same_number) (sym (without_ids kept i)) (distinct_without (ids_of kept) i (simp length-map within) apart)

pub ids_listed : (gap room : ℕ) (rows : List SpanRow) → ids_of (map (kept_span gap room) (spans_in rows)) ≡ ids_given rows
ids_listed gap room [] = refl
ids_listed gap room (row ∷ rows) = ap (λ ids. row.id ∷ ids) (ids_listed gap room rows)

-- an id stays in its place
pub ids_set : (kept : List KeptRow) (i : ℕ) (row : KeptRow) → row.id ≡ (get_or kept i no_row).id → ids_of (set kept i row) ≡ ids_of kept
ids_set kept i row stays = map-set_same (λ other. other.id) kept i row no_row stays

-- the id of a span that is seen is the one that is kept
pub id_seen : (gap room : ℕ) (kept : List KeptRow) (i : ℕ) → i < length kept → (span_at (map (seen gap room) kept) i).id ≡ (get_or kept i no_row).id
id_seen gap room kept i within = ap (λ (span : Span). span.id) (get_or-map (seen gap room) kept i no_row no_span within)

-- ids stay when the gap goes elsewhere
pub ids_anew : (old_gap old_room gap room : ℕ) (kept : List KeptRow)
    → ids_of (map (kept_span gap room) (map (seen old_gap old_room) kept)) ≡ ids_of kept
ids_anew old_gap old_room gap room [] = refl
ids_anew old_gap old_room gap room (row ∷ kept) = ap (λ ids. row.id ∷ ids) (ids_anew old_gap old_room gap room kept)

pub none_distinct : HaveDistinctIds []
none_distinct = IsDistinct-from_AllPairs {eq = same_number} Decides-eqb [] (λ i j d less below. absurd (omega (arith, below)))
