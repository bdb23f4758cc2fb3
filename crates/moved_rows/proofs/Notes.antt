-- The spans that stood, by their notes.
use Rattle.std.proofs.Common.{◌≤◌, ◌+◌, ◌≡◌, ℕ, ◌<◌, List, [], ◌∷◌, ◌++◌, map, length, get_or, refl, sym, subst, ap, ◌∙◌, arith, inl, inr}
use Rattle.std.specs.List.{All, slice_set}
use Rattle.std.proofs.lemmas.Bool.{cases_eq, ne_eqb}
use Rattle.std.proofs.lemmas.List.{length_push, get_or-map, length-map, get_or_append_left, get_or-set_other, get_or_default}
use Rattle.std.proofs.lemmas.List.Elements.{All-push}
use Rattle.std.proofs.lemmas.List.FromFn.{fill_by_all, length-map-range_with_len, get_or-map-range_with_len}
use Rattle.edit_model.specs.State.{Span}
use Rattle.edit_model.specs.Changed.{Shift}
use Rattle.span_table.specs.declared.kept.KeptRow.{KeptRow}
use Rattle.span_table.specs.Table.{AreNumbers, kept_at, no_row, no_span, seen, span_at}
use Rattle.moved_rows.specs.declared.moved.OldRow.{OldRow}
use Rattle.moved_rows.specs.Moves.{AreEarlier, AreNoted, befores, no_old, noted, noted_at}

pub befores_length : (kept : List KeptRow) (olds : List OldRow) (stamp gap room stood : ℕ) → length (befores kept olds stamp gap room stood) ≡ stood
unfolding befores
befores_length kept olds stamp gap room stood = length-map-range_with_len _ 0 stood

-- the span that stood at a place
pub befores_at : (kept : List KeptRow) (olds : List OldRow) (stamp gap room stood i : ℕ) → i < stood
    → span_at (befores kept olds stamp gap room stood) i ≡ seen gap room (noted_at kept olds stamp i)
unfolding befores
befores_at kept olds stamp gap room stood i within = get_or-map-range_with_len _ 0 stood i i no_span within (omega arith)

-- rows and notes that agree on the places that stood
pub befores_same : (kept others : List KeptRow) (olds notes : List OldRow) (stamp gap room stood : ℕ)
    → ((i : ℕ) → i < stood → noted_at kept olds stamp i ≡ noted_at others notes stamp i)
    → befores kept olds stamp gap room stood ≡ befores others notes stamp gap room stood
unfolding befores
befores_same kept others olds notes stamp gap room stood same =
    fill_by_all (λ i. seen gap room (noted_at others notes stamp i)) _ stood no_span (length-map-range_with_len _ 0 stood)
    (λ k within. get_or-map-range_with_len _ 0 stood k k no_span within (omega arith) ∙ ap (seen gap room) (same k within))

-- no note is of this edit yet
pub unnoted : (kept : List KeptRow) (olds : List OldRow) (stamp i : ℕ) → AreEarlier stamp olds → i < length olds
    → noted_at kept olds stamp i ≡ kept_at kept i
unnoted kept olds stamp i stamps within =
    let old = stamps i no_old within in
    rw (ne_eqb (get_or olds i no_old).stamp stamp (λ e. omega (arith, e, old))) refl

-- the rows stand where the edit found them
pub befores_begun : (kept : List KeptRow) (olds : List OldRow) (stamp gap room stood : ℕ) → AreEarlier stamp olds
    → length olds ≡ length kept → stood ≡ length kept → befores kept olds stamp gap room stood ≡ map (seen gap room) kept
unfolding befores
befores_begun kept olds stamp gap room stood stamps long all =
    sym (fill_by_all (λ i. seen gap room (noted_at kept olds stamp i)) (map (seen gap room) kept) stood no_span (length-map kept (seen gap room) ∙ sym all)
    (λ k within. get_or-map (seen gap room) kept k no_row no_span (omega (arith, all))
    ∙ ap (seen gap room) (sym (unnoted kept olds stamp k stamps (omega (arith, all, long))))))

-- and all are kept with numbers
pub begun_noted : (kept : List KeptRow) (olds : List OldRow) (stamp gap room stood : ℕ) → AreEarlier stamp olds
    → length olds ≡ length kept → stood ≡ length kept → All (AreNumbers gap room) kept → AreNoted kept olds stamp gap room stood
begun_noted kept olds stamp gap room stood stamps long all valid = record {
  long = long;
  within = omega (arith, all);
  stamps = λ k d within. (let old = stamps k d within in omega (arith, old));
  numbers = λ i within. subst (AreNumbers gap room) (sym (unnoted kept olds stamp i stamps (omega (arith, all, long)))) (valid i no_row (omega (arith, all)));
}

-- the note that is read at a place
pub noted_read : (kept : List KeptRow) (olds : List OldRow) (stamp i : ℕ) (old : OldRow) (row : KeptRow) → i < length olds
    → old ≡ get_or olds i old → row ≡ kept_at kept i → noted old row stamp ≡ noted_at kept olds stamp i
noted_read kept olds stamp i old row within is same =
    let note : old ≡ get_or olds i no_old = is ∙ get_or_default olds i old no_old within in
    ap (λ o. noted o row stamp) note ∙ ap (λ r. noted (get_or olds i no_old) r stamp) same

-- a row that comes behind others, with no note
pub noted_behind : (kept : List KeptRow) (olds : List OldRow) (row : KeptRow) (old : OldRow) (stamp i : ℕ) → length olds ≡ length kept → i < length kept
    → noted_at (kept ++ row ∷ []) (olds ++ old ∷ []) stamp i ≡ noted_at kept olds stamp i
noted_behind kept olds row old stamp i long within =
    let rows : get_or (kept ++ row ∷ []) i no_row ≡ get_or kept i no_row = get_or_append_left kept (row ∷ []) no_row i within in
    let notes : get_or (olds ++ old ∷ []) i no_old ≡ get_or olds i no_old = get_or_append_left olds (old ∷ []) no_old i (omega (arith, long)) in
    rw (rows, notes) refl

pub noted_more : (kept : List KeptRow) (olds : List OldRow) (row : KeptRow) (old : OldRow) (stamp gap room stood : ℕ) → AreNoted kept olds stamp gap room stood
    → old ≡ no_old → AreNoted (kept ++ row ∷ []) (olds ++ old ∷ []) stamp gap room stood
noted_more kept olds row old stamp gap room stood before none =
    let rows = length_push kept row in
    record {
      long = length_push olds old ∙ ap (λ n. n + 1) before.long ∙ sym rows;
      within = omega (arith, rows, before.within);
      stamps = All-push (λ (note : OldRow). note.stamp ≤ stamp) olds old before.stamps (omega (arith, ap (λ (note : OldRow). note.stamp) none));
      numbers = λ i within.
          subst (AreNumbers gap room) (sym (noted_behind kept olds row old stamp i before.long (omega (arith, within, before.within))))
          (before.numbers i within);
    }

-- the row at a place is another, and was noted before
pub noted_put : (kept : List KeptRow) (olds notes : List OldRow) (row : KeptRow) (stamp i : ℕ)
    → ((j : ℕ) → noted_at kept notes stamp j ≡ noted_at kept olds stamp j)
    → noted_at (slice_set kept i row) notes stamp i ≡ noted_at kept olds stamp i
    → (j : ℕ) → noted_at (slice_set kept i row) notes stamp j ≡ noted_at kept olds stamp j
noted_put kept olds notes row stamp i same at j = elim (cases_eq j i) [
  | inl is ↦ subst (λ k. noted_at (slice_set kept i row) notes stamp k ≡ noted_at kept olds stamp k) (sym is) at
  | inr other ↦ ap (λ k. noted (get_or notes j no_old) k stamp) (get_or-set_other kept i j row no_row other) ∙ same j
]

-- ---- what is seen of equal rows

pub seen_same : (rows : List KeptRow) (kept : List KeptRow) (gap gap2 room room2 : ℕ) → rows ≡ kept → gap ≡ gap2 → room ≡ room2
    → map (seen gap room) rows ≡ map (seen gap2 room2) kept
seen_same rows kept gap gap2 room room2 same gaps rooms =
    ap (λ all. map (seen gap room) all) same ∙ ap (λ g. map (seen g room) kept) gaps ∙ ap (λ r. map (seen gap2 r) kept) rooms

pub same_shift : (from to start end : Span) → from ≡ start → to ≡ end → ◌≡◌ {A = Shift} (record { from = from; to = to }) (record { from = start; to = end })
same_shift from to start end froms tos = rw (froms, tos) refl
